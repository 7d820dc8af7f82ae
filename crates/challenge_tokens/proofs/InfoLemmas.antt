-- The reading of parameters alone, piece by piece.
use Rattle.std.proofs.Common.{◌≡◌, ℕ, ◌+◌, ◌<◌, ◌≤◌, Bool, true, false, cond, nat_lt, List, [], ◌∷◌, length, take, drop, Some, None, refl, sym, ap, ◌∙◌, arith, length-drop}
use Rattle.std.specs.List.{prefix_len}
use Rattle.std.proofs.lemmas.List.{drop-drop}
use Rattle.std.proofs.lemmas.List.Sums.{prefix_len-le-length}
use Rattle.field_lists.specs.Blanks.{is_blank, trim_end}
use Rattle.challenge_tokens.specs.declared.params.Param.{Param}
use Rattle.challenge_tokens.specs.declared.piece.Form.{Form}
use Rattle.challenge_tokens.specs.declared.piece.Form.TheVariants.{Bare, WithToken, WithParam, Parameter, Bad}
use Rattle.challenge_tokens.specs.declared.piece.Quoting.TheVariants.{Outside}
use Rattle.challenge_tokens.specs.declared.info.After.{After}
use Rattle.challenge_tokens.specs.declared.info.After.TheVariants.{Goes, Ends}
use Rattle.challenge_tokens.specs.Forms.{form_of}
use Rattle.challenge_tokens.specs.Pieces.{Formed, forms_from, is_piece, distinct}
use Rattle.challenge_tokens.specs.Cutting.{piece_len}
use Rattle.challenge_tokens.specs.Front.{front, sized, if_empty, blank_piece, unless_bad}
use Rattle.challenge_tokens.specs.Infos.{params_before, info_read}
use Rattle.challenge_tokens.specs.Gathering.{gathered_by, gathered_of}
use Rattle.challenge_tokens.specs.Reading.{start, next_of}
use Rattle.challenge_tokens.proofs.CutLemmas.{piece_at, forms_behind, forms_step}
use Rattle.challenge_tokens.proofs.StepLemmas.{Knows, nothing_behind, more_behind}
use Rattle.challenge_tokens.proofs.EdgeLemmas.{cons_some}
use Rattle.challenge_tokens.proofs.SeamLemmas.{seen, piece_within, sized_some, good_form, no_form}

-- what is gathered in the end, where that is left
abbrev after_gathered : After → List Formed → List Param
after_gathered (Goes ps n) rest = distinct ps (params_before rest)
after_gathered (Ends ps) rest = ps

by_form : (ps : List Param) (f : Form) (place n : ℕ) (rest : List Formed)
    → distinct ps (params_before (record { at = place; form = f } ∷ rest)) ≡ after_gathered (gathered_by ps f n) rest
by_form ps (Bare s) place n rest = refl
by_form ps (WithToken s t) place n rest = refl
by_form ps (WithParam s p) place n rest = refl
by_form ps (Parameter p) place n rest = refl
by_form ps Bad place n rest = refl

by_bytes : (ps : List Param) (bytes : List ℕ) (place n : ℕ) (rest : List Formed) (t : Bool)
    → distinct ps (params_before (cond t (record { at = place; form = form_of bytes } ∷ rest) rest))
    ≡ after_gathered (cond t (gathered_by ps (form_of bytes) n) (Goes ps n)) rest
by_bytes ps bytes place n rest true = by_form ps (form_of bytes) place n rest
by_bytes ps bytes place n rest false = refl

-- the piece behind the blanks in front
known : (blank : ℕ) (text : List ℕ) → blank ≡ prefix_len is_blank text
    → Knows start blank (piece_len Outside (drop blank text)) text (front (drop blank text))
    (next_of start (front (drop blank text)) (piece_len Outside (drop blank text)))
known blank text is =
    seen start blank (piece_len Outside (drop blank text)) text (next_of start (front (drop blank text)) (piece_len Outside (drop blank text)))
    (record { blanks = is; next_is = refl }) refl

step : (ps : List Param) (at blank : ℕ) (text : List ℕ) → blank ≡ prefix_len is_blank text
    → distinct ps (params_before (forms_from at text))
    ≡ after_gathered (gathered_of ps (front (drop blank text)) (piece_len Outside (drop blank text)))
    (forms_behind (at + (blank + piece_len Outside (drop blank text))) (drop (blank + piece_len Outside (drop blank text)) text))
step ps at blank text is =
    let k = known blank text is in
    let len = piece_len Outside (drop blank text) in
    let n = blank + len in
    let rest = forms_behind (at + n) (drop n text) in
    let same : (piece_at at n text).bytes ≡ front (drop blank text) =
    ap (λ m. trim_end (drop m (take n text))) (sym k.blanks) ∙ sym k.trimmed in
    ap (λ fs. distinct ps (params_before fs)) (forms_step at n text k.whole)
    ∙ by_bytes ps (piece_at at n text).bytes (piece_at at n text).at len rest (is_piece (piece_at at n text))
    ∙ ap (λ y. after_gathered (gathered_of ps y len) rest) same

by_goes : (ps later : List Param) (f : Form) (n m : ℕ) → gathered_by ps f m ≡ Goes later n → n ≡ m
by_goes ps later (Bare s) n m is = absurd (cc)
by_goes ps later (WithToken s t) n m is = absurd (cc)
by_goes ps later (WithParam s p) n m is = absurd (cc)
by_goes ps later (Parameter p) n m is = cc
by_goes ps later Bad n m is = absurd (cc)

goes_by : (ps later : List Param) (f : Form) (n m : ℕ) (t : Bool) → cond t (gathered_by ps f m) (Goes ps m) ≡ Goes later n → n ≡ m
goes_by ps later f n m true is = by_goes ps later f n m is
goes_by ps later f n m false is = cc

form_by : (ps : List Param) (y : List ℕ) (m : ℕ) (f : Form) (n : ℕ) → None ≡ if_empty y m → form_of y ≡ f → n ≡ m
    → gathered_by ps f n ≡ gathered_of ps y m
form_by ps [] m f n some is len = absurd (cc)
form_by ps (b ∷ y) m f n some is len = rw (sym is, len, cons_some b y) refl

bad_by : (ps : List Param) (y : List ℕ) (m : ℕ) → None ≡ if_empty y m → form_of y ≡ Bad → Ends ps ≡ gathered_of ps y m
bad_by ps [] m some is = absurd (cc)
bad_by ps (b ∷ y) m some is = rw (is, cons_some b y) refl

-- a form that was read, and what it leaves
pub form_gathered : (ps : List Param) (text : List ℕ) (f : Form) (n : ℕ) → None ≡ blank_piece text
    → Some (f, n) ≡ sized (unless_bad (form_of (front text))) text → gathered_by ps f n ≡ gathered_of ps (front text) (piece_len Outside text)
form_gathered ps text f n some is =
    let both = sized_some (unless_bad (form_of (front text))) text f n is in
    form_by ps (front text) (piece_len Outside text) f n some (good_form (form_of (front text)) f both.0) both.1

-- none was
pub bad_gathered : (ps : List Param) (text : List ℕ) → None ≡ blank_piece text → None ≡ sized (unless_bad (form_of (front text))) text
    → Ends ps ≡ gathered_of ps (front text) (piece_len Outside text)
bad_gathered ps text some is = bad_by ps (front text) (piece_len Outside text) some (no_form (form_of (front text)) text is)

-- what the reading knows of a piece behind blanks
pub record Meets (ps : List Param) (blank : ℕ) (text more : List ℕ) (next : After) : Type 0 where
  pub blanks : blank ≡ prefix_len is_blank text
  pub behind : more ≡ drop blank text
  pub next_is : next ≡ gathered_of ps (front more) (piece_len Outside more)

goes_len : (ps later : List Param) (blank n : ℕ) (text more : List ℕ) (next : After) → Meets ps blank text more next → next ≡ Goes later n
    → n ≡ piece_len Outside more
goes_len ps later blank n text more next meets is =
    goes_by ps later (form_of (front more)) n (piece_len Outside more) (nat_lt 0 (length (front more))) (sym meets.next_is ∙ is)

-- it ends within the text
pub goes_within : (ps later : List Param) (blank n : ℕ) (text more : List ℕ) (next : After) → Meets ps blank text more next
    → next ≡ Goes later n → n ≤ length more
goes_within ps later blank n text more next meets is =
    omega (arith, goes_len ps later blank n text more next meets is, piece_within Outside more)

-- what is gathered in the end of all that is left
abbrev pub Left : List ℕ → List Param → List ℕ → Type 0
Left value ps text = (at : ℕ) × (distinct ps (params_before (forms_from at text)) ≡ info_read value)

met : (ps : List Param) (at blank : ℕ) (text more : List ℕ) (next : After) → Meets ps blank text more next
    → distinct ps (params_before (forms_from at text))
    ≡ after_gathered next (forms_behind (at + (blank + piece_len Outside more)) (drop (blank + piece_len Outside more) text))
met ps at blank text more next meets =
    step ps at blank text meets.blanks
    ∙ ap (λ t. after_gathered (gathered_of ps (front t) (piece_len Outside t)) (forms_behind (at + (blank + piece_len Outside t)) (drop (blank + piece_len Outside t) text))) (sym meets.behind)
    ∙ ap (λ (x : After). after_gathered x (forms_behind (at + (blank + piece_len Outside more)) (drop (blank + piece_len Outside more) text))) (sym meets.next_is)

pub ends_there : (value : List ℕ) (ps last : List Param) (blank : ℕ) (text more : List ℕ) (next : After) → Meets ps blank text more next
    → next ≡ Ends last → Left value ps text → last ≡ info_read value
ends_there value ps last blank text more next meets is left =
    let rest = forms_behind (left.0 + (blank + piece_len Outside more)) (drop (blank + piece_len Outside more) text) in
    sym (ap (λ (x : After). after_gathered x rest) is) ∙ sym (met ps left.0 blank text more next meets) ∙ left.1

pub all_gathered : (value : List ℕ) (ps last : List Param) (blank n : ℕ) (text more : List ℕ) (next : After) → Meets ps blank text more next
    → next ≡ Goes last n → length more ≤ n → Left value ps text → last ≡ info_read value
all_gathered value ps last blank n text more next meets is all left =
    let len = piece_len Outside more in
    let same = goes_len ps last blank n text more next meets is in
    let none = nothing_behind left.0 (blank + len) text
    (omega (arith, same, all, ap length meets.behind, length-drop blank text, meets.blanks, prefix_len-le-length is_blank text)) in
    sym (sym left.1 ∙ met ps left.0 blank text more next meets
    ∙ ap (λ (x : After). after_gathered x (forms_behind (left.0 + (blank + len)) (drop (blank + len) text))) is
    ∙ ap (λ rest. distinct last (params_before rest)) none)

pub more_gathered : (value : List ℕ) (ps later : List Param) (blank n : ℕ) (text more : List ℕ) (next : After) → Meets ps blank text more next
    → next ≡ Goes later n → n < length more → Left value ps text → Left value later (drop (n + 1) more)
more_gathered value ps later blank n text more next meets is some left =
    let len = piece_len Outside more in
    let same = goes_len ps later blank n text more next meets is in
    let within : blank + len < length text =
    omega (arith, same, some, ap length meets.behind, length-drop blank text, meets.blanks, prefix_len-le-length is_blank text) in
    let place : drop (blank + len + 1) text ≡ drop (n + 1) more =
    ap (λ m. drop m text) (omega (arith, same)) ∙ sym (drop-drop (n + 1) blank text) ∙ ap (drop (n + 1)) (sym meets.behind) in (
      left.0 + (blank + len + 1),
      ap (λ t. distinct later (params_before (forms_from (left.0 + (blank + len + 1)) t))) (sym place)
          ∙ sym (sym left.1 ∙ met ps left.0 blank text more next meets
          ∙ ap (λ (x : After). after_gathered x (forms_behind (left.0 + (blank + len)) (drop (blank + len) text))) is
          ∙ ap (λ rest. distinct later (params_before rest)) (more_behind left.0 (blank + len) text within)),
    )
