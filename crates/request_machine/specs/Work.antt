-- How much is left of a request, and where an answer leads.
use Rattle.std.specs.Prelude.{ℕ, ◌+◌, ◌-◌, ◌*◌, ◌==◌, Bool, true, false, not, length, Option, Some, None, is_some, if◌then◌else◌}
use Rattle.request_machine.specs.declared.gave.Gave.{Gave}
use Rattle.request_machine.specs.declared.gave.Gave.TheVariants.{Number, Ref, Identity, Terms, Space, NoMemory}
use Rattle.request_machine.specs.declared.holding.Holding.{Holding}
use Rattle.request_machine.specs.declared.stage.Piece.TheVariants.{Space as OfSpace, Identity as OfIdentity, Terms as OfTerms}
use Rattle.request_machine.specs.declared.stage.Stage.{Stage}
use Rattle.request_machine.specs.declared.stage.Stage.TheVariants.{Go, Learn, Choose, NameSpace, NameTerms, Select as Selecting, Ask, NameText, Answer as Answering, NameRenewal, Renew as Renewing, NextNonce, NameLast, RenewLast, Spent, SpentEnd, SpentOver, Over}
use Rattle.request_machine.specs.Kept.{Kept}

-- a number that was told waits for the next call
abbrev pub is_waiting : Stage → Bool
is_waiting (NameTerms t space) = true
is_waiting (Selecting t space terms) = true
is_waiting (Answering p text) = true
is_waiting (Renewing t gift terms) = true
is_waiting (RenewLast t gift terms c) = true
is_waiting stage = false

-- memory hasn't run out
abbrev pub is_unspent : Stage → Bool
is_unspent Spent = false
is_unspent SpentEnd = false
is_unspent SpentOver = false
is_unspent stage = true

-- ANSWERS THAT ARE NO EVENTS

-- the answer is one to what is asked for in the stage, and no event
abbrev pub is_answer : Stage → Gave → Bool
is_answer (NameSpace t) (Number n) = not (n == 0)
is_answer (NameText p) (Number n) = not (n == 0)
is_answer (NameTerms t space) (Ref numbers) = not (numbers.terms == 0)
is_answer (NameRenewal t gift) (Ref numbers) = not (numbers.terms == 0)
is_answer (NameLast t gift c) (Ref numbers) = not (numbers.terms == 0)
is_answer (Learn t OfSpace) (Space space) = true
is_answer (Learn t OfIdentity) (Identity identity) = true
is_answer (Learn t OfTerms) (Terms terms nonce) = true
is_answer (Ask p ordinal) (Space space) = true
is_answer (NameSpace t) NoMemory = true
is_answer (NameText p) NoMemory = true
is_answer (NameTerms t space) NoMemory = true
is_answer (NameRenewal t gift) NoMemory = true
is_answer (NameLast t gift c) NoMemory = true
is_answer (Learn t piece) NoMemory = true
is_answer (Ask p ordinal) NoMemory = true
is_answer stage gave = false

-- a number of what was to be named, or that there was no memory for it
abbrev pub is_of_naming : Gave → Bool
is_of_naming (Number n) = true
is_of_naming (Ref numbers) = true
is_of_naming NoMemory = true
is_of_naming gave = false

-- where a request stands by it
abbrev pub stage_told : Kept → Stage → Gave → Stage
stage_told m (NameSpace t) (Number n) = if is_some m.unnamed_terms then NameTerms t n else Selecting t n 0
stage_told m (NameText p) (Number n) = Answering p n
stage_told m (NameTerms t space) (Ref numbers) = Selecting t space numbers.terms
stage_told m (NameRenewal t gift) (Ref numbers) = Renewing t gift numbers.terms
stage_told m (NameLast t gift c) (Ref numbers) = RenewLast t gift numbers.terms c
stage_told m (Learn t piece) (Space space) = Go
stage_told m (Learn t piece) (Identity identity) = Go
stage_told m (Learn t piece) (Terms terms nonce) = Go
stage_told m stage NoMemory = Spent
stage_told m stage gave = stage

-- HOW MUCH IS LEFT

-- one, where it wasn't told yet
abbrev pub untold : {A : Type 0} → Option A → ℕ
untold None = 1
untold (Some a) = 0

-- what the book is still to tell of what is held
abbrev pub pieces_left : Option Holding → ℕ
pieces_left None = 0
pieces_left (Some h) = untold h.space + untold h.identity + untold h.named

-- the answers that are awaited before the next event
abbrev pub answers_at : Stage → ℕ
answers_at (Choose t) = 3
answers_at (NameSpace t) = 3
answers_at (NameTerms t space) = 2
answers_at (NameText p) = 2
answers_at (NameRenewal t gift) = 2
answers_at (NextNonce t c) = 2
answers_at (NameLast t gift c) = 2
answers_at Spent = 0
answers_at SpentEnd = 0
answers_at SpentOver = 0
answers_at Over = 0
answers_at stage = 1

abbrev pub answers_left : Kept → ℕ
answers_left m = answers_at m.stage + pieces_left m.proxy + pieces_left m.server + untold m.space

-- with each answer it falls
unfoldable pub work_left : Kept → ℕ
work_left m = (256 - length m.past) * 16 + answers_left m
