-- What the bytes of a piece do within a body.
use Rattle.std.proofs.Common.{◌≡◌, ℕ, ◌+◌, ◌-◌, ◌<◌, ◌≤◌, Bool, true, cond, List, ◌++◌, length, drop, Some, None, refl, sym, ap, subst, ◌∙◌, arith, length-append, length-drop}
use Rattle.std.specs.Prelude.{nat_lt, nat_le}
use Rattle.std.proofs.lemmas.Bool.Decides.{nat_tests}
use Rattle.std.proofs.lemmas.List.{drop_all, drop-drop}
use Rattle.spaces.specs.declared.roster.Method.{Method}
use Rattle.wire_head.specs.declared.chunk_place.Place.{Place}
use Rattle.wire_head.specs.declared.chunk_run.ChunkRun.{ChunkRun}
use Rattle.wire_head.specs.declared.chunk_run.ChunkRun.TheVariants.{On as RunsOn, Ends, Fault as RunsWrong}
use Rattle.wire_head.specs.declared.progress.Progress.TheVariants.{Open, Whole, Fault}
use Rattle.wire_head.specs.declared.reading.Stepped.{Stepped}
use Rattle.wire_head.specs.declared.reply.Reply.{Reply}
use Rattle.wire_head.specs.declared.reply.WireFault.TheVariants.{BodyTooLong}
use Rattle.wire_head.specs.declared.state.Next.{Next}
use Rattle.wire_head.specs.declared.state.Next.TheVariants.{On, Over}
use Rattle.wire_head.specs.declared.state.State.{State}
use Rattle.wire_head.specs.declared.state.State.TheVariants.{InLength, InOpen, InChunks}
use Rattle.wire_head.specs.Replies.{body_limit}
use Rattle.wire_head.specs.ReadingStates.{shown, went, IsState, IsAt, IsNextAt}
use Rattle.wire_head.specs.ReadingRuns.{IsChunkRun, IsAllRun, IsStepped, IsRead}

-- A LENGTH

pub length_over : (method : Method) (r : Reply) (at left : ℕ) (text : List ℕ) → IsState (InLength r at left) → left ≤ length text
    → IsStepped method (InLength r at left) text (record { used = left; next = Over (Whole r (at + left)) })
length_over method r at left text is within = record {
  some = is.1;
  within = within;
  is = refl;
  at = λ k place. (omega (arith, place), refl);
  shows = λ more.
      let size = length-append text more in
      let all : nat_le left (length (text ++ more)) ≡ true = grind (arith, nat_tests, size) in
      ap (λ (x : Bool). cond x (Whole r (at + left)) (Open None)) all;
}

pub length_on : (method : Method) (r : Reply) (at left : ℕ) (text : List ℕ) → IsState (InLength r at left) → length text < left → 0 < length text
    → IsStepped method (InLength r at left) text (record { used = length text; next = On (InLength r (at + length text) (left - length text)) })
length_on method r at left text is short some = record {
  some = some;
  within = omega arith;
  is = (is.0, omega (arith, short), omega (arith, short, is.2));
  at = λ k place. omega (arith, place);
  shows = λ more.
      let size = length-append text more in
      let same : nat_le left (length (text ++ more)) ≡ nat_le (left - length text) (length more) = grind (arith, nat_tests, size) in
      ap (λ (x : Bool). cond x (Whole r (at + left)) (Open None)) same
      ∙ ap (λ (k : ℕ). cond (nat_le (left - length text) (length more)) (Whole r k) (Open None)) (omega (arith, short))
      ∙ ap (λ (xs : List ℕ). shown method (InLength r (at + length text) (left - length text)) (xs ++ more)) (sym (drop_all (length text) text (omega arith)));
}

-- UP TO THE END OF THE STREAM

pub open_past : (method : Method) (r : Reply) (count : ℕ) (text : List ℕ) → 1048576 - count < length text → IsState (InOpen r count)
    → IsStepped method (InOpen r count) text (record { used = length text; next = Over (Fault BodyTooLong) })
open_past method r count text long is = record {
  some = omega (arith, long);
  within = omega arith;
  is = refl;
  at = λ k place. (tt, refl);
  shows = λ more.
      let size = length-append text more in
      let few = is.1 in
      let past : nat_lt body_limit (count + length (text ++ more)) ≡ true = grind (arith, nat_tests, size, long, few) in
      ap (λ (x : Bool). cond x (Fault BodyTooLong) (Open (Some (record r { body = count + length (text ++ more) })))) past;
}

pub open_on : (method : Method) (r : Reply) (count : ℕ) (text : List ℕ) → length text ≤ 1048576 - count → 0 < length text → IsState (InOpen r count)
    → IsStepped method (InOpen r count) text (record { used = length text; next = On (InOpen r (count + length text)) })
open_on method r count text short some is = record {
  some = some;
  within = omega arith;
  is = (is.0, omega (arith, short, is.1));
  at = λ k place. tt;
  shows = λ more.
      let size = length-append text more in
      ap (λ (n : ℕ). cond (nat_lt body_limit n) (Fault BodyTooLong) (Open (Some (record r { body = n })))) (omega (arith, size))
      ∙ ap (λ (xs : List ℕ). shown method (InOpen r (count + length text)) (xs ++ more)) (sym (drop_all (length text) text (omega arith)));
}

-- CHUNKS

-- what a run of a chunked body is to the reader
abbrev pub by_run : Reply → ℕ → ℕ → ℕ → ChunkRun → Stepped
by_run r at count len (RunsOn used later size place) = record { used = used; next = On (InChunks r at later size place) }
by_run r at count len (Ends used size) = record { used = used; next = Over (Whole (record r { body = size }) (at + count + used)) }
by_run r at count len (RunsWrong fault) = record { used = len; next = Over (Fault fault) }

pub chunks_run : (method : Method) (r : Reply) (at count size : ℕ) (place : Place) (text : List ℕ) (run : ChunkRun) → IsState (InChunks r at count size place)
    → 0 < length text → IsChunkRun count size place text run → IsAllRun (length text) run
    → IsStepped method (InChunks r at count size place) text (by_run r at count (length text) run)
chunks_run method r at count size place text (RunsOn used later more_size there) is some run all = record {
  some = omega (arith, some, all);
  within = run.0;
  is = (is.0, is.1, run.2);
  at = λ k here. omega (arith, here, run.1);
  shows = λ more. run.3 r at more;
}
chunks_run method r at count size place text (Ends used data_size) is some run all = record {
  some = run.0;
  within = run.1;
  is = refl;
  at = λ k here. (omega (arith, here), refl);
  shows = λ more. run.3 r at more ∙ ap (λ (k : ℕ). Whole (record r { body = data_size }) k) (omega arith);
}
chunks_run method r at count size place text (RunsWrong fault) is some run all = record {
  some = some;
  within = omega arith;
  is = refl;
  at = λ k here. (tt, refl);
  shows = λ more. run r at more;
}

-- STEPS

pub none_read : (method : Method) (s : State) (text : List ℕ) → IsState s → IsRead method s text (record { used = 0; next = On s })
none_read method s text is = record {
  within = omega arith;
  is = is;
  at = λ k here. subst (IsAt s) (omega arith) here;
  shows = λ more. refl;
}

pub then_read : (method : Method) (s t : State) (text : List ℕ) (used n : ℕ) (next : Next) → IsRead method s text (record { used = used; next = On t })
    → IsStepped method t (drop used text) (record { used = n; next = next }) → IsRead method s text (record { used = used + n; next = next })
then_read method s t text used n next first then_ =
    let len = length-drop used text in
    let before = first.within in
    let within = then_.within in record {
      within = omega (arith, len, before, within);
      is = then_.is;
      at = λ k here. subst (IsNextAt next) (omega arith) (then_.at (k + used) (first.at k here));
      shows = λ more.
          first.shows more ∙ then_.shows more
          ∙ ap (λ (xs : List ℕ). went method next (xs ++ more)) (drop-drop n used text);
    }
