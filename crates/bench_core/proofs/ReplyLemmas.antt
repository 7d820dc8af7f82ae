-- What a piece decides of a reply, the whole text shows.
use Rattle.std.proofs.Common.{◌≡◌, ℕ, true, false, List, ◌++◌, None, Ok, sym, ap, subst, ◌∙◌, append_assoc}
use Rattle.spaces.specs.declared.roster.Method.TheVariants.{Get}
use Rattle.wire_head.specs.declared.reply.Reply.{Reply}
use Rattle.wire_head.specs.declared.reply.WireFault.{WireFault}
use Rattle.wire_head.specs.declared.reader.At.{At}
use Rattle.wire_head.specs.declared.reader.At.TheVariants.{More, Whole, Fault}
use Rattle.wire_head.specs.declared.reader.Fed.{Fed}
use Rattle.wire_head.specs.Feeding.{IsAnswer, IsAnswerAt, IsMore, IsMoreAt}
use Rattle.wire_head.specs.Replies.{reply}
use Rattle.wire_head.proofs.UsedLemmas.{outcome_stays}
use Rattle.bench_core.specs.Replies.{is_whole}

-- the answer, where it is known which
known : (fed piece : List ℕ) (before len : ℕ) (r : Fed) (at : At) → IsAnswer (reply Get (fed ++ piece) false) before len r → r.at ≡ at
    → IsAnswerAt (reply Get (fed ++ piece) false) before len r.used at
known fed piece before len r at answer is = subst (λ (it : At). IsAnswerAt (reply Get (fed ++ piece) false) before len r.used it) is answer

-- the text, with the piece beside what was fed before it
beside : (fed piece rest text : List ℕ) → fed ++ (piece ++ rest) ≡ text → text ≡ (fed ++ piece) ++ rest
beside fed piece rest text is = sym is ∙ sym (append_assoc fed piece rest)

pub whole_text : (fed piece rest text : List ℕ) (before len : ℕ) (r : Fed) (whole : Reply) → fed ++ (piece ++ rest) ≡ text
    → IsAnswer (reply Get (fed ++ piece) false) before len r → r.at ≡ Whole whole → true ≡ is_whole (reply Get text false)
whole_text fed piece rest text before len r whole is answer at =
    let told = (known fed piece before len r (Whole whole) answer at).0 in
    let stays = outcome_stays Get (fed ++ piece) rest false (λ none. cc (sym none ∙ told)) in
    sym (ap (λ (t : List ℕ). is_whole (reply Get t false)) (beside fed piece rest text is) ∙ ap is_whole (stays ∙ told))

pub spoilt_text : (fed piece rest text : List ℕ) (before len : ℕ) (r : Fed) (fault : WireFault) → fed ++ (piece ++ rest) ≡ text
    → IsAnswer (reply Get (fed ++ piece) false) before len r → r.at ≡ Fault fault → false ≡ is_whole (reply Get text false)
spoilt_text fed piece rest text before len r fault is answer at =
    let told = known fed piece before len r (Fault fault) answer at in
    let stays = outcome_stays Get (fed ++ piece) rest false (λ none. cc (sym none ∙ told)) in
    sym (ap (λ (t : List ℕ). is_whole (reply Get t false)) (beside fed piece rest text is) ∙ ap is_whole (stays ∙ told))

pub more_text : (fed piece : List ℕ) (before len : ℕ) (r : Fed)
    → IsAnswer (reply Get (fed ++ piece) false) before len r → r.at ≡ More → (reply Get (fed ++ piece) false ≡ Ok None) × IsMore r
more_text fed piece before len r answer at =
    ((known fed piece before len r More answer at).0, subst IsMoreAt (sym at) tt)
