-- A spelled list, read from the left.
use Rattle.std.proofs.Common.{◌≡◌, ℕ, ◌+◌, nat_lt, true, false, List, [], ◌∷◌, ◌++◌, length, take, drop, None, refl, sym, ap, ◌∙◌, append_assoc, add-zero}
use Rattle.std.proofs.lemmas.List.{append-nil}
use Rattle.std.proofs.lemmas.List.Folds.{list_all-append}
use Rattle.std.proofs.Math.Seq.{take-append_seam, drop-append_seam}
use Rattle.field_lists.specs.Blanks.{is_blank, trim_start, trim_end}
use Rattle.challenge_tokens.specs.declared.challenge.Challenge.{Challenge}
use Rattle.challenge_tokens.specs.declared.piece.Quoting.TheVariants.{Outside}
use Rattle.challenge_tokens.specs.declared.piece.Form.{Form}
use Rattle.challenge_tokens.specs.declared.field.Reading.{Reading}
use Rattle.challenge_tokens.specs.declared.field.Next.TheVariants.{Goes}
use Rattle.challenge_tokens.specs.Forms.{form_of}
use Rattle.challenge_tokens.specs.Pieces.{forms_from}
use Rattle.challenge_tokens.specs.Cutting.{piece_len}
use Rattle.challenge_tokens.specs.Reading.{is_refused, so_far, with_form, resume, next_of}
use Rattle.challenge_tokens.specs.Spelling.{are_blanks}
use Rattle.challenge_tokens.proofs.StepLemmas.{step}
use Rattle.challenge_tokens.proofs.EdgeLemmas.{IsClosed, IsTrimmed, passes-append, trimmed_between, blanks_between}
use Rattle.challenge_tokens.proofs.SpellingLemmas.{closed_blanks}

-- ---- one piece

-- reading goes from r over the text to its end, and gives these challenges
abbrev pub Ends : Reading → List ℕ → List Challenge → Type 0
Ends r text cs = (at : ℕ) → resume r (forms_from at text) ≡ record { challenges = cs; bad_at = None }

pub same_text : (r : Reading) (cs : List Challenge) (a b : List ℕ) → a ≡ b → Ends r b cs → Ends r a cs
same_text r cs a b e ends at = ap (λ t. resume r (forms_from at t)) e ∙ ends at

abbrev pub Leads : Reading → Reading → List ℕ → Type 0
Leads r next x = (n : ℕ) → next_of r (trim_end (trim_start x)) n ≡ Goes next n

chunk_more : (r next : Reading) (x rest : List ℕ) (cs : List Challenge) → IsClosed x → Leads r next x → Ends next rest cs
    → Ends r (x ++ 44 ∷ rest) cs
chunk_more r next x rest cs closed leads ends at =
    let len = sym (closed (44 ∷ rest) ∙ add-zero (length x)) in
    step r at (length x) (length x) (x ++ 44 ∷ rest) len
    ∙ rw (take-append_seam x (44 ∷ rest), drop-append_seam x (44 ∷ rest), leads (length x)) (ends (at + length x + 1))

last_at : (r next : Reading) (x y : List ℕ) → y ≡ x ++ [] → IsClosed x → Leads r next x → Ends r y (so_far next)
last_at r next x y e closed leads at =
    let len = sym (ap (piece_len Outside) e ∙ closed [] ∙ add-zero (length x)) in
    let all : take (length x) y ≡ x = ap (take (length x)) e ∙ take-append_seam x [] in
    let none : drop (length x) y ≡ [] = ap (drop (length x)) e ∙ drop-append_seam x [] in
    step r at (length x) (length x) y len ∙ rw (all, none, leads (length x)) refl

-- the text, with any blanks behind it, is a piece that leads from r to the next reading
pub record Pending (r next : Reading) (x : List ℕ) : Type 0 where
  pub closed : IsClosed x
  pub leads : (back : List ℕ) → are_blanks back ≡ true → Leads r next (x ++ back)

pub pending_more : (r next : Reading) (x before rest : List ℕ) (cs : List Challenge) → Pending r next x → are_blanks before ≡ true
    → Ends next rest cs → Ends r (x ++ (before ++ 44 ∷ rest)) cs
pending_more r next x before rest cs p blank ends =
    same_text r cs (x ++ (before ++ 44 ∷ rest)) ((x ++ before) ++ 44 ∷ rest) (sym (append_assoc x before (44 ∷ rest)))
    (chunk_more r next (x ++ before) rest cs (passes-append Outside Outside Outside x before p.closed (closed_blanks before blank)) (p.leads before blank) ends)

pub pending_last : (r next : Reading) (x : List ℕ) → Pending r next x → Ends r (x ++ []) (so_far next)
pending_last r next x p = last_at r next x (x ++ []) refl p.closed (λ n. rw append-nil at (p.leads [] refl n))

blanks_too : (a b : List ℕ) → are_blanks a ≡ true → are_blanks b ≡ true → are_blanks (a ++ b) ≡ true
blanks_too a b x y = list_all-append is_blank a b ∙ rw (x, y) refl

pub pending_blanks : (r next : Reading) (x b : List ℕ) → Pending r next x → are_blanks b ≡ true → Pending r next (x ++ b)
pending_blanks r next x b p blank = record {
  closed = passes-append Outside Outside Outside x b p.closed (closed_blanks b blank);
  leads =
      λ back more n. ap (λ t. next_of r (trim_end (trim_start t)) n) (append_assoc x b back)
      ∙ p.leads (b ++ back) (blanks_too b back blank more) n;
}

pub blank_pending : (r : Reading) (front : List ℕ) → are_blanks front ≡ true → Pending r r front
blank_pending r front blank = record {
  closed = closed_blanks front blank;
  leads = λ back more n. ap (λ t. next_of r t n) (blanks_between front back blank more);
}

leads_form : (r : Reading) (e : List ℕ) (f : Form) (n : ℕ) → nat_lt 0 (length e) ≡ true → form_of e ≡ f → is_refused r f ≡ false
    → next_of r e n ≡ Goes (with_form r f) n
leads_form r e f n some form good = rw (some, form, good) refl

pub piece_pending : (r : Reading) (front e : List ℕ) (f : Form) → are_blanks front ≡ true → IsTrimmed e → IsClosed e → form_of e ≡ f
    → is_refused r f ≡ false → Pending r (with_form r f) (front ++ e)
piece_pending r front e f blank trimmed closed form good = record {
  closed = passes-append Outside Outside Outside front e (closed_blanks front blank) closed;
  leads =
      λ back more n. ap (λ t. next_of r t n) (trimmed_between front e back blank more trimmed)
      ∙ leads_form r e f n trimmed.some form good;
}
