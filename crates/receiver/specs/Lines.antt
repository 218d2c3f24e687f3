-- How the receiver's own steps are written in code: a line's two parts, what stands, and what is found. Assumes nothing.
use Rattle.std.specs.Prelude.{ℕ, List, ◌++◌}
use Rattle.reading.specs.Events.{Standing, Step, event_of}
use Rattle.reading.specs.Events.Standing.{Wait, Skip, Hit}
use Rattle.receiver.specs.declared.line.Line.{Line}
use Rattle.receiver.specs.declared.line.Standing.{Standing as Coded}
use Rattle.receiver.specs.declared.line.Standing.TheVariants as coded
use Rattle.receiver.specs.declared.line.Step.{Step as CodedStep}

-- both parts of a line, read as one
abbrev pub bytes : {MAX : ℕ} → Line MAX → List ℕ
bytes l = l.front.now ++ l.back.now

abbrev pub standing_of : Coded → Standing
standing_of coded.Wait = Wait
standing_of (coded.Skip k) = Skip k
standing_of (coded.Hit e k p) = Hit (event_of e) k p

abbrev pub step_of : CodedStep → Step
step_of f =
    record {
      event = event_of f.event;
      carried = f.carried;
      at = f.at;
      looked = f.looked;
      next = f.next;
      count = f.count;
    }
