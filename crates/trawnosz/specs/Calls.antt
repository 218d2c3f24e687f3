-- Answers as C sees them: an event and a reply's command as numbers.
-- Assumes nothing.
use Rattle.reading.specs.Values.{told}
use Rattle.receiver.specs.Receivers.{Served}
use Rattle.reply.specs.Dues.{Answer}
use Rattle.reply.specs.Replies.{command_for}
use Rattle.trawnosz.specs.declared.ServedC.{ServedC}
use Rattle.trawnosz.specs.declared.AnswerC.{AnswerC}

-- "PACKET gives the packet's length": an event as its number and that length
abbrev pub served_to : Served → ServedC
served_to s =
    record {
      event = (told s.event).number;
      length = (told s.event).length;
      skipped = s.skipped;
      taken = s.taken;
      held = s.held;
      count = s.count;
    }

-- a reply as its command, 0 where nothing was written
abbrev pub answer_to : Answer → AnswerC
answer_to a = record { verdict = a.verdict; command = command_for a.due }
