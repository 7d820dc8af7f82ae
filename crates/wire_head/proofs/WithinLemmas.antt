-- A whole reply ends within its text.
use Rattle.std.proofs.Common.{◌≡◌, ℕ, ◌≤◌, Bool, true, false, List, [], length, Some, None, Ok, refl, sym, ap, arith}
use Rattle.spaces.specs.declared.roster.Method.{Method}
use Rattle.wire_head.specs.declared.progress.Progress.{Progress}
use Rattle.wire_head.specs.declared.progress.Progress.TheVariants.{Open, Whole, Fault}
use Rattle.wire_head.specs.declared.reply.Reply.{Reply}
use Rattle.wire_head.specs.Replies.{progress, answer, reply}
use Rattle.wire_head.proofs.UsedLemmas.{used}

-- a reply that only the stream's end makes whole has all bytes
all_at_end : (len n : ℕ) (p : Progress) (r : Reply) → answer false len p ≡ Ok None → answer true len p ≡ Ok (Some (r, n)) → n ≡ len
all_at_end len n (Open None) r undecided e = cc e
all_at_end len n (Open (Some last)) r undecided e = let pair : (last, len) ≡ (r, n) = cc e in sym (ap (λ (p : Reply × ℕ). p.1) pair)
all_at_end len n (Whole other m) r undecided e = cc undecided
all_at_end len n (Fault fault) r undecided e = cc e

pub ends_at_end : (method : Method) (text : List ℕ) (r : Reply) (n : ℕ) → reply method text false ≡ Ok None → reply method text true ≡ Ok (Some (r, n)) → n ≡ length text
ends_at_end method text r n undecided e = all_at_end (length text) n (progress method text) r undecided e

within : (method : Method) (text : List ℕ) (ended : Bool) (p : Progress) (r : Reply) (n : ℕ) → progress method text ≡ p → answer ended (length text) p ≡ Ok (Some (r, n)) → n ≤ length text
within method text false (Open last) r n is e = cc e
within method text true (Open None) r n is e = cc e
within method text true (Open (Some last)) r n is e =
    let pair : (last, length text) ≡ (r, n) = cc e in
    let same : length text ≡ n = ap (λ (p : Reply × ℕ). p.1) pair in omega (arith, same)
within method text ended (Whole other m) r n is e =
    let pair : (other, m) ≡ (r, n) = cc e in
    let same : m ≡ n = ap (λ (p : Reply × ℕ). p.1) pair in
    let end = used method [] text other m refl is in omega (arith, same, end.1)
within method text ended (Fault fault) r n is e = cc e

pub ends_within : (method : Method) (text : List ℕ) (ended : Bool) (r : Reply) (n : ℕ) → reply method text ended ≡ Ok (Some (r, n)) → n ≤ length text
ends_within method text ended r n e = within method text ended (progress method text) r n refl e
