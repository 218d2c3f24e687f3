-- Each call that is linked says what the library's call of its name says, so that what `demands` states of the library's calls holds of the linked ones.
-- Assumes nothing.
use Rattle.trawnosz.proofs.trawnosz_fresh.Reads as of_fresh
use Rattle.trawnosz_c.proofs.trawnosz_fresh.Reads as linked_fresh
use Rattle.trawnosz.proofs.trawnosz_receive.Reads as of_receive
use Rattle.trawnosz_c.proofs.trawnosz_receive.Reads as linked_receive
use Rattle.trawnosz.proofs.trawnosz_judge_packet.Reads as of_judge_packet
use Rattle.trawnosz_c.proofs.trawnosz_judge_packet.Reads as linked_judge_packet
use Rattle.trawnosz.proofs.trawnosz_read_packet.Reads as of_read_packet
use Rattle.trawnosz_c.proofs.trawnosz_read_packet.Reads as linked_read_packet
use Rattle.trawnosz.proofs.trawnosz_find_unit.Reads as of_find_unit
use Rattle.trawnosz_c.proofs.trawnosz_find_unit.Reads as linked_find_unit
use Rattle.trawnosz.proofs.trawnosz_write_packet.Reads as of_write_packet
use Rattle.trawnosz_c.proofs.trawnosz_write_packet.Reads as linked_write_packet
use Rattle.trawnosz.proofs.trawnosz_write_packet_object.Reads as of_write_packet_object
use Rattle.trawnosz_c.proofs.trawnosz_write_packet_object.Reads as linked_write_packet_object
use Rattle.trawnosz.proofs.trawnosz_write_packet_text.Reads as of_write_packet_text
use Rattle.trawnosz_c.proofs.trawnosz_write_packet_text.Reads as linked_write_packet_text
use Rattle.trawnosz.proofs.trawnosz_answer_to.Reads as of_answer_to
use Rattle.trawnosz_c.proofs.trawnosz_answer_to.Reads as linked_answer_to
use Rattle.trawnosz.proofs.trawnosz_judge_unit.Reads as of_judge_unit
use Rattle.trawnosz_c.proofs.trawnosz_judge_unit.Reads as linked_judge_unit
use Rattle.trawnosz.proofs.trawnosz_judge_unit_under.Reads as of_judge_unit_under
use Rattle.trawnosz_c.proofs.trawnosz_judge_unit_under.Reads as linked_judge_unit_under
use Rattle.trawnosz.proofs.trawnosz_unit_length.Reads as of_unit_length
use Rattle.trawnosz_c.proofs.trawnosz_unit_length.Reads as linked_unit_length
use Rattle.trawnosz.proofs.trawnosz_find_object.Reads as of_find_object
use Rattle.trawnosz_c.proofs.trawnosz_find_object.Reads as linked_find_object
use Rattle.trawnosz.proofs.trawnosz_read_object.Reads as of_read_object
use Rattle.trawnosz_c.proofs.trawnosz_read_object.Reads as linked_read_object
use Rattle.trawnosz.proofs.trawnosz_find_description.Reads as of_find_description
use Rattle.trawnosz_c.proofs.trawnosz_find_description.Reads as linked_find_description
use Rattle.trawnosz.proofs.trawnosz_write_object.Reads as of_write_object
use Rattle.trawnosz_c.proofs.trawnosz_write_object.Reads as linked_write_object
use Rattle.trawnosz.proofs.trawnosz_write_text.Reads as of_write_text
use Rattle.trawnosz_c.proofs.trawnosz_write_text.Reads as linked_write_text
use Rattle.trawnosz.proofs.trawnosz_exchanges_fresh.Reads as of_exchanges_fresh
use Rattle.trawnosz_c.proofs.trawnosz_exchanges_fresh.Reads as linked_exchanges_fresh
use Rattle.trawnosz.proofs.trawnosz_begin_and_write.Reads as of_begin_and_write
use Rattle.trawnosz_c.proofs.trawnosz_begin_and_write.Reads as linked_begin_and_write
use Rattle.trawnosz.proofs.trawnosz_reply_confirm.Reads as of_reply_confirm
use Rattle.trawnosz_c.proofs.trawnosz_reply_confirm.Reads as linked_reply_confirm
use Rattle.trawnosz.proofs.trawnosz_reply_answer.Reads as of_reply_answer
use Rattle.trawnosz_c.proofs.trawnosz_reply_answer.Reads as linked_reply_answer
use Rattle.trawnosz.proofs.trawnosz_reply_deny.Reads as of_reply_deny
use Rattle.trawnosz_c.proofs.trawnosz_reply_deny.Reads as linked_reply_deny
use Rattle.trawnosz.proofs.trawnosz_reply_bad_answer.Reads as of_reply_bad_answer
use Rattle.trawnosz_c.proofs.trawnosz_reply_bad_answer.Reads as linked_reply_bad_answer
use Rattle.trawnosz.proofs.trawnosz_take_packet.Reads as of_take_packet
use Rattle.trawnosz_c.proofs.trawnosz_take_packet.Reads as linked_take_packet
use Rattle.trawnosz.proofs.trawnosz_tick.Reads as of_tick
use Rattle.trawnosz_c.proofs.trawnosz_tick.Reads as linked_tick
use Rattle.trawnosz.proofs.trawnosz_judge_table.Reads as of_judge_table
use Rattle.trawnosz_c.proofs.trawnosz_judge_table.Reads as linked_judge_table
use Rattle.trawnosz.proofs.trawnosz_find_part.Reads as of_find_part
use Rattle.trawnosz_c.proofs.trawnosz_find_part.Reads as linked_find_part
use Rattle.trawnosz.proofs.trawnosz_name.Reads as of_name
use Rattle.trawnosz_c.proofs.trawnosz_name.Reads as linked_name
use Rattle.trawnosz.proofs.trawnosz_release.Reads as of_release
use Rattle.trawnosz_c.proofs.trawnosz_release.Reads as linked_release

pub fresh-said : (κs : _) (x : _) (r : _) (x' : _) → linked_fresh.Post κs x r x' → of_fresh.Post κs x r x'
fresh-said κs x r x' a = a

pub receive-said : (κs : _) (x : _) (r : _) (x' : _) → linked_receive.Post κs x r x' → of_receive.Post κs x r x'
receive-said κs x r x' a = a

pub judge_packet-said : (κs : _) (x : _) (r : _) (x' : _) → linked_judge_packet.Post κs x r x' → of_judge_packet.Post κs x r x'
judge_packet-said κs x r x' a = a

pub read_packet-said : (κs : _) (x : _) (r : _) (x' : _) → linked_read_packet.Post κs x r x' → of_read_packet.Post κs x r x'
read_packet-said κs x r x' a = a

pub find_unit-said : (κs : _) (x : _) (r : _) (x' : _) → linked_find_unit.Post κs x r x' → of_find_unit.Post κs x r x'
find_unit-said κs x r x' a = a

pub write_packet-said : (κs : _) (x : _) (r : _) (x' : _) → linked_write_packet.Post κs x r x' → of_write_packet.Post κs x r x'
write_packet-said κs x r x' a = a

pub write_packet_object-said : (κs : _) (x : _) (r : _) (x' : _) → linked_write_packet_object.Post κs x r x' → of_write_packet_object.Post κs x r x'
write_packet_object-said κs x r x' a = a

pub write_packet_text-said : (κs : _) (x : _) (r : _) (x' : _) → linked_write_packet_text.Post κs x r x' → of_write_packet_text.Post κs x r x'
write_packet_text-said κs x r x' a = a

pub answer_to-said : (κs : _) (x : _) (r : _) (x' : _) → linked_answer_to.Post κs x r x' → of_answer_to.Post κs x r x'
answer_to-said κs x r x' a = a

pub judge_unit-said : (κs : _) (x : _) (r : _) (x' : _) → linked_judge_unit.Post κs x r x' → of_judge_unit.Post κs x r x'
judge_unit-said κs x r x' a = a

pub judge_unit_under-said : (κs : _) (x : _) (r : _) (x' : _) → linked_judge_unit_under.Post κs x r x' → of_judge_unit_under.Post κs x r x'
judge_unit_under-said κs x r x' a = a

pub unit_length-said : (κs : _) (x : _) (r : _) (x' : _) → linked_unit_length.Post κs x r x' → of_unit_length.Post κs x r x'
unit_length-said κs x r x' a = a

pub find_object-said : (κs : _) (x : _) (r : _) (x' : _) → linked_find_object.Post κs x r x' → of_find_object.Post κs x r x'
find_object-said κs x r x' a = a

pub read_object-said : (κs : _) (x : _) (r : _) (x' : _) → linked_read_object.Post κs x r x' → of_read_object.Post κs x r x'
read_object-said κs x r x' a = a

pub find_description-said : (κs : _) (x : _) (r : _) (x' : _) → linked_find_description.Post κs x r x' → of_find_description.Post κs x r x'
find_description-said κs x r x' a = a

pub write_object-said : (κs : _) (x : _) (r : _) (x' : _) → linked_write_object.Post κs x r x' → of_write_object.Post κs x r x'
write_object-said κs x r x' a = a

pub write_text-said : (κs : _) (x : _) (r : _) (x' : _) → linked_write_text.Post κs x r x' → of_write_text.Post κs x r x'
write_text-said κs x r x' a = a

pub exchanges_fresh-said : (κs : _) (x : _) (r : _) (x' : _) → linked_exchanges_fresh.Post κs x r x' → of_exchanges_fresh.Post κs x r x'
exchanges_fresh-said κs x r x' a = a

pub begin_and_write-said : (κs : _) (x : _) (r : _) (x' : _) → linked_begin_and_write.Post κs x r x' → of_begin_and_write.Post κs x r x'
begin_and_write-said κs x r x' a = a

pub reply_confirm-said : (κs : _) (x : _) (r : _) (x' : _) → linked_reply_confirm.Post κs x r x' → of_reply_confirm.Post κs x r x'
reply_confirm-said κs x r x' a = a

pub reply_answer-said : (κs : _) (x : _) (r : _) (x' : _) → linked_reply_answer.Post κs x r x' → of_reply_answer.Post κs x r x'
reply_answer-said κs x r x' a = a

pub reply_deny-said : (κs : _) (x : _) (r : _) (x' : _) → linked_reply_deny.Post κs x r x' → of_reply_deny.Post κs x r x'
reply_deny-said κs x r x' a = a

pub reply_bad_answer-said : (κs : _) (x : _) (r : _) (x' : _) → linked_reply_bad_answer.Post κs x r x' → of_reply_bad_answer.Post κs x r x'
reply_bad_answer-said κs x r x' a = a

pub take_packet-said : (κs : _) (x : _) (r : _) (x' : _) → linked_take_packet.Post κs x r x' → of_take_packet.Post κs x r x'
take_packet-said κs x r x' a = a

pub tick-said : (κs : _) (x : _) (r : _) (x' : _) → linked_tick.Post κs x r x' → of_tick.Post κs x r x'
tick-said κs x r x' a = a

pub judge_table-said : (κs : _) (x : _) (r : _) (x' : _) → linked_judge_table.Post κs x r x' → of_judge_table.Post κs x r x'
judge_table-said κs x r x' a = a

pub find_part-said : (κs : _) (x : _) (r : _) (x' : _) → linked_find_part.Post κs x r x' → of_find_part.Post κs x r x'
find_part-said κs x r x' a = a

pub name-said : (κs : _) (x : _) (r : _) (x' : _) → linked_name.Post κs x r x' → of_name.Post κs x r x'
name-said κs x r x' a = a

pub release-said : (κs : _) (x : _) (r : _) (x' : _) → linked_release.Post κs x r x' → of_release.Post κs x r x'
release-said κs x r x' a = a
