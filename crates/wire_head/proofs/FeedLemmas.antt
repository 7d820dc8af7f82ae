-- What a reader answers to a piece, by what the piece did to its state.
use Rattle.std.proofs.Common.{◌≡◌, ℕ, ◌+◌, ◌≤◌, true, false, List, [], ◌++◌, length, Some, None, Ok, Err, refl, sym, ap, subst, ◌∙◌, arith, append_assoc, length-append}
use Rattle.std.proofs.lemmas.List.{append-nil, drop_all}
use Rattle.spaces.specs.declared.roster.Method.{Method}
use Rattle.wire_head.specs.declared.progress.Progress.{Progress}
use Rattle.wire_head.specs.declared.progress.Progress.TheVariants.{Open, Whole, Fault}
use Rattle.wire_head.specs.declared.reply.Reply.{Reply}
use Rattle.wire_head.specs.declared.reply.WireFault.{WireFault}
use Rattle.wire_head.specs.declared.reply.WireFault.TheVariants.{Cut}
use Rattle.wire_head.specs.declared.reading.Stepped.{Stepped}
use Rattle.wire_head.specs.declared.state.Next.{Next}
use Rattle.wire_head.specs.declared.state.Next.TheVariants.{On, Over}
use Rattle.wire_head.specs.declared.state.State.TheVariants.{InHead, InLength, InOpen, InChunks}
use Rattle.wire_head.specs.declared.state.State.{State}
use Rattle.wire_head.specs.Feeding.{Reading, IsFed}
use Rattle.wire_head.specs.Replies.{heads, progress, reply, answer, at_stop}
use Rattle.wire_head.specs.ReadingStates.{shown, at_end, IsState, IsAt, StandsFor}
use Rattle.wire_head.specs.ReadingRuns.{IsRead}
use Rattle.wire_head.proofs.UsedLemmas.{empty_open}

-- a reader that was fed some bytes shows them and those of the piece
piece_shows : (r : Reading) (method : Method) (fed piece more : List ℕ) → IsFed r method fed
    → heads method 0 0 ((fed ++ piece) ++ more) ≡ shown r.method r.state (piece ++ more)
piece_shows r method fed piece more is =
    ap (heads method 0 0) (append_assoc fed piece more) ∙ is.2 (piece ++ more)
    ∙ ap (λ (m : Method). shown m r.state (piece ++ more)) (sym is.0)

pub goes_on : (r : Reading) (method : Method) (fed piece : List ℕ) (used : ℕ) (t : State) → IsFed r method fed
    → IsRead r.method r.state piece (record { used = used; next = On t }) → used ≡ length piece
    → IsFed (record { method = r.method; state = t }) method (fed ++ piece)
goes_on r method fed piece used t is read all = (
  is.0,
  subst (IsAt t) (omega (arith, all, length-append fed piece)) (read.at (length fed) is.1),
  λ more.
      piece_shows r method fed piece more is
      ∙ read.shows more
      ∙ ap (λ (xs : List ℕ). shown r.method t (xs ++ more)) (drop_all used piece (omega (arith, all)))
      ∙ ap (λ (m : Method). shown m t more) is.0,
)

-- nothing is decided by what a state stands for
pub undecided : (method : Method) (s : State) (fed : List ℕ) → IsState s → StandsFor method s fed → progress method fed ≡ Open (at_end s)
undecided method s fed is stands =
    ap (heads method 0 0) (sym (append-nil fed)) ∙ stands [] ∙ empty_open method s is

pub more_answer : (r : Reading) (method : Method) (fed piece : List ℕ) (used : ℕ) (t : State) → IsFed r method fed
    → IsRead r.method r.state piece (record { used = used; next = On t }) → used ≡ length piece
    → reply method (fed ++ piece) false ≡ Ok None
more_answer r method fed piece used t is read all =
    ap (answer false (length (fed ++ piece))) (undecided method t (fed ++ piece) read.is (goes_on r method fed piece used t is read all).2)

over_answer : (r : Reading) (method : Method) (fed piece : List ℕ) (used : ℕ) (p : Progress) → IsFed r method fed
    → IsRead r.method r.state piece (record { used = used; next = Over p }) → progress method (fed ++ piece) ≡ p
over_answer r method fed piece used p is read =
    ap (heads method 0 0) (sym (append-nil (fed ++ piece))) ∙ piece_shows r method fed piece [] is ∙ read.shows []

pub whole_reply : (r : Reading) (method : Method) (fed piece : List ℕ) (used n : ℕ) (whole : Reply) → IsFed r method fed
    → IsRead r.method r.state piece (record { used = used; next = Over (Whole whole n) })
    → (reply method (fed ++ piece) false ≡ Ok (Some (whole, length fed + used))) × (used ≤ length piece)
whole_reply r method fed piece used n whole is read =
    let place : n ≡ length fed + used = (read.at (length fed) is.1).0 in (
      ap (answer false (length (fed ++ piece))) (over_answer r method fed piece used (Whole whole n) is read)
          ∙ ap (λ (k : ℕ). answer false (length (fed ++ piece)) (Whole whole k)) place,
      read.within,
    )

pub fault_reply : (r : Reading) (method : Method) (fed piece : List ℕ) (used : ℕ) (fault : WireFault) → IsFed r method fed
    → IsRead r.method r.state piece (record { used = used; next = Over (Fault fault) })
    → reply method (fed ++ piece) false ≡ Err fault
fault_reply r method fed piece used fault is read =
    ap (answer false (length (fed ++ piece))) (over_answer r method fed piece used (Fault fault) is read)

-- the end of the stream
pub last_answer : (r : Reading) (method : Method) (fed : List ℕ) → IsState r.state → IsFed r method fed
    → reply method fed true ≡ at_stop true (length fed) (at_end r.state)
last_answer r method fed is fed_is = ap (answer true (length fed)) (undecided method r.state fed is fed_is.2)

-- FROM THE CODE

pub read_as : (method : Method) (s other : State) (piece : List ℕ) (step : Stepped) (next : Next) → IsRead method other piece step
    → other ≡ s → step.next ≡ next → IsRead method s piece (record { used = step.used; next = next })
read_as method s other piece step next read same is =
    subst (λ n. IsRead method s piece (record { used = step.used; next = n })) is (subst (λ x. IsRead method x piece step) same read)

no_answer : (s : State) → ((r : Reply) (count : ℕ) → ¬ (s ≡ InOpen r count)) → at_end s ≡ None
no_answer (InHead at front) other = refl
no_answer (InLength r at left) other = refl
no_answer (InOpen r count) other = absurd (other r count refl)
no_answer (InChunks r at count size place) other = refl

pub open_end : (r : Reading) (method : Method) (fed : List ℕ) (shown_ answered : Reply) (count : ℕ) → IsState r.state → IsFed r method fed
    → r.state ≡ InOpen shown_ count → answered ≡ record shown_ { body = count }
    → (n : ℕ) × (reply method fed true ≡ Ok (Some (answered, n)))
open_end r method fed shown_ answered count is fed_is state answer_is = (
  length fed,
  last_answer r method fed is fed_is ∙ ap (λ (s : State). at_stop true (length fed) (at_end s)) state
      ∙ ap (λ (x : Reply). at_stop true (length fed) (Some x)) (sym answer_is),
)

pub cut_end : (r : Reading) (method : Method) (fed : List ℕ) → IsState r.state → IsFed r method fed
    → ((shown_ : Reply) (count : ℕ) → ¬ (r.state ≡ InOpen shown_ count)) → reply method fed true ≡ Err Cut
cut_end r method fed is fed_is other =
    last_answer r method fed is fed_is ∙ ap (at_stop true (length fed)) (no_answer r.state other)
