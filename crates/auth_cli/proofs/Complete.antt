-- Faults aside, the text decides how a command ends.
use Rattle.std.proofs.Common.{◌≡◌, ◌⊎◌, inl, inr, true, false, ℕ, ◌+◌, ◌<◌, List, ◌++◌, length, refl, sym, ◌∙◌, ap, arith, length-append, Option, Some, None, nat_lt}
use Rattle.std.proofs.lemmas.List.{append-nil}
use Rattle.std.proofs.lemmas.Bool.{le-ltb, lt-ltb}
use Rattle.std.specs.Io.KnownBytes.{prepend_known, IsAtEnd}
use Rattle.session_text.specs.declared.session.What.{What}
use Rattle.session_text.specs.Sessions.{session}
use Rattle.auth_cli.specs.Statuses.{IsCaused, WasJudged, WasTooLong, expected, status_of}
use Rattle.auth_cli.specs.declared.words.Command.{Command}
use Rattle.auth_cli.specs.declared.status.Status.{Status}
use Rattle.auth_cli.specs.declared.status.Status.TheVariants.{Done, Usage, BadSession, ReadFault, WriteFault, NoMemory, TooLarge, TooFewGears}

whole-input : (text input : List ℕ) (new : Option (List ℕ)) → Some text ≡ prepend_known input new → IsAtEnd new → text ≡ input
whole-input text input None e end = cc
whole-input text input (Some rest) e end =
    let i : text ≡ input ++ rest = cc in
    i ∙ ap (λ z. input ++ z) end ∙ append-nil input

longer-input : (text more : List ℕ) (new : Option (List ℕ)) → Some text ≡ prepend_known more new → 4194304 < length more → 4194304 < length text
longer-input text more None e long = cc
longer-input text more (Some rest) e long =
    let i : text ≡ more ++ rest = cc in
    let l : length text ≡ length more + length rest = ap length i ∙ length-append more rest in
    omega (arith, l, long)

-- what was judged is what the text says
judged-as : (asked : Command) (status : Status) (text : List ℕ) (old new : Option (List ℕ)) → old ≡ Some text → WasJudged status old new
    → status ≡ expected asked text
judged-as asked status text old new told j =
    let same : text ≡ j.input = whole-input text j.input new (sym told ∙ j.read.0) j.read.1 in
    let small : nat_lt 4194304 (length text) ≡ false = le-ltb 4194304 (length text) (rw same j.short) in
    sym (rw small (ap (λ t. status_of (session t)) same ∙ j.judged))

-- what was too long is too long
too-long : (asked : Command) (what : What) (number : ℕ) (text : List ℕ) (old new : Option (List ℕ)) → old ≡ Some text → WasTooLong what number old new
    → TooLarge what number ≡ expected asked text
too-long asked what number text old new told w =
    let long : nat_lt 4194304 (length text) ≡ true = lt-ltb 4194304 (length text) (longer-input text w.past.0 new (sym told ∙ w.past.1) w.past.2) in
    rw (long, w.bytes, w.first_past) refl

caused-too-large : (asked : Command) (what : What) (number : ℕ) (text : List ℕ) (old new : Option (List ℕ)) → old ≡ Some text
    → (WasTooLong what number old new ⊎ WasJudged (TooLarge what number) old new) → TooLarge what number ≡ expected asked text
caused-too-large asked what number text old new told (inl long) = too-long asked what number text old new told long
caused-too-large asked what number text old new told (inr judged) = judged-as asked (TooLarge what number) text old new told judged

-- the status is the expected one, where it is neither want of memory nor a failure
pub complete : (status : Status) (asked : Command) (text : List ℕ) (old new : Option (List ℕ)) (Read Write : Type 0)
    → IsCaused asked status old new → (status ≡ ReadFault → Read) → (status ≡ WriteFault → Write)
    → old ≡ Some text → (Read → ⊥) → (Write → ⊥) → (status ≡ expected asked text) ⊎ (status ≡ NoMemory)
complete Done asked text old new Read Write cause rf wf told r w = inl (judged-as asked Done text old new told cause)
complete Usage asked text old new Read Write cause rf wf told r w = absurd cause
complete (BadSession line) asked text old new Read Write cause rf wf told r w = inl (judged-as asked (BadSession line) text old new told cause)
complete ReadFault asked text old new Read Write cause rf wf told r w = absurd (r (rf refl))
complete WriteFault asked text old new Read Write cause rf wf told r w = absurd (w (wf refl))
complete NoMemory asked text old new Read Write cause rf wf told r w = inr refl
complete (TooLarge what number) asked text old new Read Write cause rf wf told r w = inl (caused-too-large asked what number text old new told cause)
complete (TooFewGears wanted given) asked text old new Read Write cause rf wf told r w = absurd cause
