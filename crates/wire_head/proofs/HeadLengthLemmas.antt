-- The first head of a text that goes on.
use Rattle.std.proofs.Common.{◌≡◌, ℕ, suc, zero, ◌+◌, ◌-◌, ◌<◌, ◌≤◌, Bool, true, false, cond, ◌==◌, List, [], ◌∷◌, ◌++◌, length, take, drop, ◌⊎◌, inl, inr, Option, Some, None, refl, sym, ap, ◌∙◌, arith}
use Rattle.std.specs.Option.{option_map}
use Rattle.std.proofs.lemmas.List.{length-take-le, take-append-drop}
use Rattle.wire_head.specs.Lines.{behind_return, blank_len, end_len, or_later, head_len}

none_some : {P : Type 0} (n : ℕ) → ◌≡◌ {A = Option ℕ} None (Some n) → P
none_some n h = cc h

-- a blank line of one byte more goes on being one

alone : (a b : Bool) (n : ℕ) → cond a (Some 1) (cond b None None) ≡ Some n → (a ≡ true) × (n ≡ 1)
alone true b n h = (refl, cc)
alone false true n h = none_some n h
alone false false n h = none_some n h

pub blank_more : (text more : List ℕ) (n : ℕ) → blank_len text ≡ Some n → blank_len (text ++ more) ≡ Some n
blank_more [] more n h = none_some n h
blank_more (x ∷ []) more n h =
    let one = alone (x == 10) (x == 13) n h in
    ap (λ (t : Bool). cond t (Some 1) (cond (x == 13) (behind_return more) None)) one.0
    ∙ ap (λ (k : ℕ). Some k) (sym one.1)
blank_more (x ∷ y ∷ text) more n h = h

on_lf : (t : Bool) (o : Option ℕ) (n : ℕ) → cond t (option_map (λ k. 1 + k) o) None ≡ Some n
    → (t ≡ true) × ((k : ℕ) × (o ≡ Some k) × (n ≡ 1 + k))
on_lf true None n h = none_some n h
on_lf true (Some k) n h = (refl, (k, refl, cc))
on_lf false o n h = none_some n h

pub end_more : (b : ℕ) (text more : List ℕ) (n : ℕ) → end_len (b ∷ text) ≡ Some n → end_len (b ∷ (text ++ more)) ≡ Some n
end_more b text more n h =
    let lf = on_lf (b == 10) (blank_len text) n h in
    ap (λ (t : Bool). cond t (option_map (λ k. 1 + k) (blank_len (text ++ more))) None) lf.0
    ∙ ap (option_map (λ k. 1 + k)) (blank_more text more lf.1.0 lf.1.1)
    ∙ ap (λ (k : ℕ). Some k) (sym lf.1.2)

-- a head has two bytes at least

abbrev Blank : ℕ → List ℕ → Type 0
Blank n text = (0 < n) × (n ≤ length text)

two : (a b : Bool) (o : Option ℕ) (n : ℕ) → cond a (Some 1) (cond b o None) ≡ Some n → ((a ≡ true) × (n ≡ 1)) ⊎ (o ≡ Some n)
two true b o n h = inl (refl, cc)
two false true o n h = inr h
two false false o n h = none_some n h

return_on : (t : Bool) (n : ℕ) → cond t (Some 2) None ≡ Some n → n ≡ 2
return_on true n h = cc
return_on false n h = none_some n h

return_two : (text : List ℕ) (n : ℕ) → behind_return text ≡ Some n → n ≡ 2
return_two [] n h = none_some n h
return_two (y ∷ text) n h = return_on (y == 10) n h

blank_one : (x : ℕ) (text : List ℕ) (n : ℕ) → blank_len (x ∷ text) ≡ Some n → n ≡ 1 → (x == 10) ≡ true
blank_one x text n h one =
    elim (two (x == 10) (x == 13) (behind_return text) n h) [
      | inl e ↦ e.0
      | inr e ↦ let e2 = return_two text n e in absurd (omega arith)
    ]

pub blank_within : (text : List ℕ) (n : ℕ) → blank_len text ≡ Some n → (0 < n) × (n ≤ length text)
blank_within [] n h = none_some n h
blank_within (x ∷ []) n h = let one = alone (x == 10) (x == 13) n h in (omega arith, omega arith)
blank_within (x ∷ y ∷ text) n h =
    elim (two (x == 10) (x == 13) (behind_return (y ∷ text)) n h) [
      | inl e ↦ let e1 = e.1 in (omega arith, omega arith)
      | inr e ↦ let e2 = return_two (y ∷ text) n e in (omega arith, omega arith)
    ]

pub end_within : (b : ℕ) (text : List ℕ) (n : ℕ) → end_len (b ∷ text) ≡ Some n → (1 < n) × (n ≤ length text + 1)
end_within b text n h =
    let lf = on_lf (b == 10) (blank_len text) n h in
    let w = blank_within text lf.1.0 lf.1.1 in
    let e = lf.1.2 in
    (omega (arith, w.0, e), omega (arith, w.1, e))

or_some : (e o : Option ℕ) (n : ℕ) → or_later e o ≡ Some n → (e ≡ Some n) ⊎ ((e ≡ None) × ((m : ℕ) × (o ≡ Some m) × (n ≡ 1 + m)))
or_some (Some k) o n h = inl h
or_some None None n h = none_some n h
or_some None (Some m) n h = inr (refl, (m, refl, cc))

pub head_within : (text : List ℕ) (n : ℕ) → head_len text ≡ Some n → (1 < n) × (n ≤ length text)
head_within [] n h = none_some n h
head_within (b ∷ text) n h =
    elim (or_some (end_len (b ∷ text)) (head_len text) n h) [
      | inl e ↦ let w = end_within b text n e in (omega (arith, w.0), omega (arith, w.1))
      | inr later ↦
          let w = head_within text later.1.0 later.1.1 in
          let e = later.1.2 in
          (omega (arith, w.0, e), omega (arith, w.1, e))
    ]

-- where two bytes are there, more bytes change no end
end_same : (b : ℕ) (text more : List ℕ) → 1 < length text → end_len (b ∷ (text ++ more)) ≡ end_len (b ∷ text)
end_same b [] more some = absurd (omega arith)
end_same b (x ∷ []) more some = absurd (omega arith)
end_same b (x ∷ y ∷ text) more some = refl

pub head_more : (text more : List ℕ) (n : ℕ) → head_len text ≡ Some n → head_len (text ++ more) ≡ Some n
head_more [] more n h = none_some n h
head_more (b ∷ text) more n h =
    elim (or_some (end_len (b ∷ text)) (head_len text) n h) [
      | inl e ↦ ap (λ (x : Option ℕ). or_later x (head_len (text ++ more))) (end_more b text more n e)
      | inr later ↦
          let w = head_within text later.1.0 later.1.1 in
          let long : 1 < length text = omega (arith, w.0, w.1) in
          ap (λ (x : Option ℕ). or_later x (head_len (text ++ more))) (end_same b text more long ∙ later.0)
          ∙ ap (or_later None) (head_more text more later.1.0 later.1.1)
          ∙ ap (λ (k : ℕ). Some k) (sym later.1.2)
    ]

end_local : (b : ℕ) (text more : List ℕ) (n : ℕ) → end_len (b ∷ (text ++ more)) ≡ Some n → n ≤ length text + 1
    → end_len (b ∷ text) ≡ Some n
end_local b [] more n h small = let w = end_within b more n h in absurd (omega (arith, w.0))
end_local b (x ∷ []) more n h small =
    let lf = on_lf (b == 10) (blank_len (x ∷ more)) n h in
    let e = lf.1.2 in
    let w = blank_within (x ∷ more) lf.1.0 lf.1.1 in
    let one : lf.1.0 ≡ 1 = omega (arith, e, w.0, small) in
    let is = blank_one x more lf.1.0 lf.1.1 one in
    let two_of : 2 ≡ n = omega (arith, one, e) in
    ap (λ (t : Bool). cond t (option_map (λ k. 1 + k) (blank_len (x ∷ []))) None) lf.0
    ∙ ap (λ (t : Bool). option_map (λ k. 1 + k) (cond t (Some 1) (cond (x == 13) None None))) is
    ∙ ap (λ (k : ℕ). Some k) two_of
end_local b (x ∷ y ∷ text) more n h small = h

pub head_local : (text more : List ℕ) (n : ℕ) → head_len (text ++ more) ≡ Some n → n ≤ length text → head_len text ≡ Some n
head_local [] more n h small = let w = head_within more n h in absurd (omega (arith, w.0))
head_local (b ∷ text) more n h small =
    elim (or_some (end_len (b ∷ (text ++ more))) (head_len (text ++ more)) n h) [
      | inl e ↦ ap (λ (x : Option ℕ). or_later x (head_len text)) (end_local b text more n e (omega arith))
      | inr later ↦
          let e = later.1.2 in
          let rest = head_local text more later.1.0 later.1.1 (omega (arith, e)) in
          let w = head_within text later.1.0 rest in
          let long : 1 < length text = omega (arith, w.0, w.1) in
          ap (λ (x : Option ℕ). or_later x (head_len text)) (sym (end_same b text more long) ∙ later.0)
          ∙ ap (or_later None) rest
          ∙ ap (λ (k : ℕ). Some k) (sym e)
    ]

-- A HEAD'S END BEHIND A FRONT THAT HAS NONE

none_parts : (a later : Option ℕ) → or_later a later ≡ None → (a ≡ None) × (later ≡ None)
none_parts (Some n) later is = cc is
none_parts None None is = (refl, refl)
none_parts None (Some m) is = cc is

from_start : (x : Option ℕ) → x ≡ option_map (λ n. 0 + n) x
from_start None = refl
from_start (Some n) = ap (λ (k : ℕ). Some k) (omega arith)

one_later : (i : ℕ) (x : Option ℕ) → option_map (λ n. 1 + n) (option_map (λ n. i + n) x) ≡ option_map (λ n. suc i + n) x
one_later i None = refl
one_later i (Some n) = ap (λ (k : ℕ). Some k) (omega arith)

-- where no blank line ends within so many bytes, one is looked for from two bytes before on
pub head_from : (i before : ℕ) (text : List ℕ) → i ≤ before - 2 → before ≤ length text → head_len (take before text) ≡ None
    → head_len text ≡ option_map (λ n. i + n) (head_len (drop i text))
head_from zero before text few within none = from_start (head_len text)
head_from (suc i) zero text few within none = absurd (omega (arith, few))
head_from (suc i) (suc p) [] few within none = absurd (omega (arith, within))
head_from (suc i) (suc p) (b ∷ text) few within none =
    let parts = none_parts (end_len (b ∷ take p text)) (head_len (take p text)) none in
    let len = length-take-le p text (omega (arith, within)) in
    let more : 1 < length (take p text) = omega (arith, few, len) in
    let no_end : end_len (b ∷ text) ≡ None =
    ap (λ (xs : List ℕ). end_len (b ∷ xs)) (sym (take-append-drop p text)) ∙ end_same b (take p text) (drop p text) more ∙ parts.0 in
    ap (λ (x : Option ℕ). or_later x (head_len text)) no_end
    ∙ ap (or_later None) (head_from i p text (omega (arith, few)) (omega (arith, within)) parts.1)
    ∙ one_later i (head_len (drop i text))

pub found_from : (from before : ℕ) (text rest : List ℕ) (x : Option ℕ) → from ≡ before - 2 → before ≤ length text → head_len (take before text) ≡ None
    → rest ≡ drop from text → x ≡ head_len rest → option_map (λ n. from + n) x ≡ head_len text
found_from from before text rest x is_from within none is_rest is =
    ap (option_map (λ n. from + n)) (is ∙ ap head_len is_rest) ∙ sym (head_from from before text (omega (arith, is_from)) within none)

pub some_within : (text : List ℕ) (n : ℕ) → Some n ≡ head_len text → (0 < n) × (n ≤ length text)
some_within text n is = let w = head_within text n (sym is) in (omega (arith, w.0), w.1)
