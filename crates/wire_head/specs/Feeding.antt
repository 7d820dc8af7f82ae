-- What a reader answers to its pieces.
use Rattle.std.specs.Prelude.{◌≡◌, ℕ, ◌+◌, ◌≤◌, List, length, ⊤, Option, Some, None, Result, Ok, Err}
use Rattle.spaces.specs.declared.roster.Method.{Method}
use Rattle.wire_head.specs.declared.reply.Reply.{Reply}
use Rattle.wire_head.specs.declared.reply.WireFault.{WireFault}
use Rattle.wire_head.specs.declared.reader.At.{At}
use Rattle.wire_head.specs.declared.reader.At.TheVariants.{More, Whole, Fault, NoMemory}
use Rattle.wire_head.specs.declared.reader.Fed.{Fed}
use Rattle.wire_head.specs.declared.state.State.{State}
use Rattle.wire_head.specs.ReadingStates.{IsAt, StandsFor}

-- a request's method, and what the reader keeps of its reply
pub record Reading : Type 0 where
  pub method : Method
  pub state : State

-- the reader of a reply to this method was fed these bytes, of which more may come: whatever comes, they show together what it shows behind the reader's state
abbrev pub IsFed : Reading → Method → List ℕ → Type 0
IsFed r method fed = (r.method ≡ method) × IsAt r.state (length fed) × StandsFor method r.state fed

-- the same of the plain reader, which keeps the bytes
pub record Text : Type 0 where
  pub method : Method
  pub bytes : List ℕ

abbrev pub IsKept : Text → Method → List ℕ → Type 0
IsKept r method fed = (r.method ≡ method) × (r.bytes ≡ fed)

abbrev pub IsAnswerAt : Result (Option (Reply × ℕ)) WireFault → ℕ → ℕ → ℕ → At → Type 0
IsAnswerAt told before len used More = (told ≡ Ok None) × (used ≡ len)
IsAnswerAt told before len used (Whole reply) = (told ≡ Ok (Some (reply, before + used))) × (used ≤ len)
IsAnswerAt told before len used (Fault fault) = told ≡ Err fault
IsAnswerAt told before len used NoMemory = ⊤

-- what is told of the text, behind so many bytes of it that were fed before
abbrev pub IsAnswer : Result (Option (Reply × ℕ)) WireFault → ℕ → ℕ → Fed → Type 0
IsAnswer told before len fed = IsAnswerAt told before len fed.used fed.at

abbrev pub IsMoreAt : At → Type 0
IsMoreAt More = ⊤
IsMoreAt (Whole reply) = ⊥
IsMoreAt (Fault fault) = ⊥
IsMoreAt NoMemory = ⊥

abbrev pub IsMore : Fed → Type 0
IsMore fed = IsMoreAt fed.at

-- the same at the end of the stream
abbrev pub IsAnswerAtEnd : Result (Option (Reply × ℕ)) WireFault → Result Reply WireFault → Type 0
IsAnswerAtEnd told (Ok reply) = (n : ℕ) × (told ≡ Ok (Some (reply, n)))
IsAnswerAtEnd told (Err fault) = told ≡ Err fault
