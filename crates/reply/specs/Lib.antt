pub mod Dues
pub mod Replies
