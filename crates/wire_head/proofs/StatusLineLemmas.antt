-- A head is read by its lines.
use Rattle.std.proofs.Common.{◌≡◌, ℕ, ◌+◌, ◌-◌, ◌<◌, ◌≤◌, Bool, false, not, cond, ◌==◌, List, [], ◌∷◌, ◌++◌, length, take, drop, map, Option, Some, None, refl, sym, ap, ◌∙◌, arith, append_assoc, codes}
use Rattle.std.specs.Prelude.{All, IsTrue, reverse}
use Rattle.std.specs.List.{prefix_len, flat_map}
use Rattle.std.specs.Char.{is_ascii_digit}
use Rattle.std.proofs.lemmas.Bool.Decides.{nat_tests}
use Rattle.std.proofs.lemmas.List.{reverse-append, reverse-reverse, append-nil}
use Rattle.std.proofs.Math.Seq.{take-append_seam, drop-append-add}
use Rattle.std.proofs.lemmas.List.Elements.{All-head, All-tail, All-weaker, All-cons, All-append}
use Rattle.std.proofs.lemmas.List.Sums.{AllPass-from_list_all}
use Rattle.httparse.specs.Grammar.{LineEnd, crlf, lf, print_end, print_blank, print_version, print_reason, reason_phrase, print_field, Field as Row, IsField, AllPass, is_token_byte, is_value_byte, ResponseHead, IsResponseHead, print_response}
use Rattle.httparse.specs.Pieces.{is_newline}
use Rattle.httparse.proofs.PieceLemmas.{token_is_no_newline, colon_ends_token}
use Rattle.httparse.proofs.TrimLemmas.{AllPass-reverse}
use Rattle.httparse.proofs.GrammarLemmas.{print_response-append}
use Rattle.wire_head.specs.Lines.{cut_at, grow}
use Rattle.wire_head.specs.ResponseHeads.{Line, from_back, line_of, lines, row_of, is_blank, rows, last_end, reason_of, behind_blank, tree}

abbrev pub plain : ℕ → Bool
plain b = not (is_newline b)

plain_of : (b : ℕ) → is_newline b ≡ false → IsTrue (plain b)
plain_of b none = ap not none

token_plain : (b : ℕ) → IsTrue (is_token_byte b) → IsTrue (plain b)
token_plain b token = plain_of b (token_is_no_newline b token)

value_plain : (b : ℕ) → IsTrue (is_value_byte b) → IsTrue (plain b)
value_plain b value = grind (arith, nat_tests)

pub no_lf : (b : ℕ) → IsTrue (plain b) → (b == 10) ≡ false
no_lf b h = grind (arith, nat_tests)

no_cr : (b : ℕ) → IsTrue (plain b) → (b == 13) ≡ false
no_cr b h = grind (arith, nat_tests)

cut_lf : (text rest : List ℕ) → AllPass plain text → cut_at 10 (text ++ 10 ∷ rest) ≡ text ∷ cut_at 10 rest
cut_lf [] rest all = refl
cut_lf (b ∷ text) rest all =
    ap (λ (t : Bool). grow t b (cut_at 10 (text ++ 10 ∷ rest))) (no_lf b (All-head (λ b. IsTrue (plain b)) b text all))
    ∙ ap (grow false b) (cut_lf text rest (All-tail (λ b. IsTrue (plain b)) b text all))

pub cut_crlf : (text rest : List ℕ) → AllPass plain text → cut_at 10 (text ++ 13 ∷ 10 ∷ rest) ≡ (text ++ 13 ∷ []) ∷ cut_at 10 rest
cut_crlf [] rest all = refl
cut_crlf (b ∷ text) rest all =
    ap (λ (t : Bool). grow t b (cut_at 10 (text ++ 13 ∷ 10 ∷ rest))) (no_lf b (All-head (λ b. IsTrue (plain b)) b text all))
    ∙ ap (grow false b) (cut_crlf text rest (All-tail (λ b. IsTrue (plain b)) b text all))

abbrev line : List ℕ → LineEnd → Line
line text end = record { text = text; end = end }

back_plain : (back : List ℕ) → AllPass plain back → from_back back ≡ line (reverse back) lf
back_plain [] all = refl
back_plain (b ∷ back) all =
    ap (λ (t : Bool). cond t (line (reverse back) crlf) (line (reverse (b ∷ back)) lf))
    (no_cr b (All-head (λ b. IsTrue (plain b)) b back all))

line_of_lf : (text : List ℕ) → AllPass plain text → line_of text ≡ line text lf
line_of_lf text all =
    back_plain (reverse text) (AllPass-reverse plain text all) ∙ ap (λ t. line t lf) (reverse-reverse text)

line_of_crlf : (text : List ℕ) → line_of (text ++ 13 ∷ []) ≡ line text crlf
line_of_crlf text = ap from_back (reverse-append text (13 ∷ [])) ∙ ap (λ t. line t crlf) (reverse-reverse text)

line_step : (text : List ℕ) (end : LineEnd) (rest : List ℕ) → AllPass plain text
    → lines (text ++ (print_end end ++ rest)) ≡ line text end ∷ lines rest
line_step text lf rest all = ap (map line_of) (cut_lf text rest all) ∙ ap (λ l. l ∷ lines rest) (line_of_lf text all)
line_step text crlf rest all = ap (map line_of) (cut_crlf text rest all) ∙ ap (λ l. l ∷ lines rest) (line_of_crlf text)

-- rows

name_len : (name rest : List ℕ) → AllPass is_token_byte name → prefix_len is_token_byte (name ++ 58 ∷ rest) ≡ length name
name_len [] rest all = ap (λ (t : Bool). cond t (1 + prefix_len is_token_byte rest) 0) colon_ends_token
name_len (b ∷ name) rest all =
    ap (λ (t : Bool). cond t (1 + prefix_len is_token_byte (name ++ 58 ∷ rest)) 0) (All-head (λ b. IsTrue (is_token_byte b)) b name all)
    ∙ ap (λ (n : ℕ). 1 + n) (name_len name rest (All-tail (λ b. IsTrue (is_token_byte b)) b name all))
    ∙ omega arith

abbrev row_line : Row → Line
row_line f = line (f.name ++ 58 ∷ f.raw) f.end

row_again : (f : Row) → IsField f → row_of (row_line f) ≡ f
row_again f is =
    let n = name_len f.name f.raw is.name.1 in
    let name = ap (λ k. take k (f.name ++ 58 ∷ f.raw)) n ∙ take-append_seam f.name (58 ∷ f.raw) in
    let raw = ap (λ k. drop (k + 1) (f.name ++ 58 ∷ f.raw)) n ∙ drop-append-add f.name (58 ∷ f.raw) 1 in
    rw (name, raw) refl

nonempty : (name rest : List ℕ) (end : LineEnd) → 0 < length name → is_blank (line (name ++ rest) end) ≡ false
nonempty [] rest end some = absurd (omega arith)
nonempty (b ∷ name) rest end some = refl

row_plain : (f : Row) → IsField f → AllPass plain (f.name ++ 58 ∷ f.raw)
row_plain f is =
    All-append (λ b. IsTrue (plain b)) f.name (58 ∷ f.raw)
    (All-weaker (λ b. IsTrue (is_token_byte b)) (λ b. IsTrue (plain b)) token_plain f.name is.name.1)
    (All-cons (λ b. IsTrue (plain b)) 58 f.raw refl
    (All-weaker (λ b. IsTrue (is_value_byte b)) (λ b. IsTrue (plain b)) value_plain f.raw is.raw))

row_step : (f : Row) (rest : List ℕ) → IsField f → lines (print_field f ++ rest) ≡ row_line f ∷ lines rest
row_step f rest is =
    ap lines (append_assoc (f.name ++ 58 ∷ f.raw) (print_end f.end) rest)
    ∙ line_step (f.name ++ 58 ∷ f.raw) f.end rest (row_plain f is)

abbrev section_text : List Row → LineEnd → List ℕ
section_text fields last = flat_map print_field fields ++ print_end last

section_lines : (fields : List Row) (last : LineEnd) → All IsField fields
    → lines (section_text fields last) ≡ map row_line fields ++ line [] last ∷ lines []
section_lines [] last all = ap lines (sym (append-nil (print_end last))) ∙ line_step [] last [] (λ i x h. absurd (omega arith))
section_lines (f ∷ fields) last all =
    ap lines (append_assoc (print_field f) (flat_map print_field fields) (print_end last))
    ∙ row_step f (section_text fields last) (All-head IsField f fields all)
    ∙ ap (λ ls. row_line f ∷ ls) (section_lines fields last (All-tail IsField f fields all))

rows_again : (fields : List Row) (last : LineEnd) (ls : List Line) → All IsField fields
    → rows (map row_line fields ++ line [] last ∷ ls) ≡ fields
rows_again [] last ls all = refl
rows_again (f ∷ fields) last ls all =
    let is = All-head IsField f fields all in
    ap (λ (t : Bool). cond t [] (row_of (row_line f) ∷ rows (map row_line fields ++ line [] last ∷ ls)))
    (nonempty f.name (58 ∷ f.raw) f.end is.name.0)
    ∙ ap (λ r. r ∷ rows (map row_line fields ++ line [] last ∷ ls)) (row_again f is)
    ∙ ap (λ rs. f ∷ rs) (rows_again fields last ls (All-tail IsField f fields all))

last_again : (fields : List Row) (last : LineEnd) (ls : List Line) → All IsField fields
    → last_end (map row_line fields ++ line [] last ∷ ls) ≡ last
last_again [] last ls all = refl
last_again (f ∷ fields) last ls all =
    let is = All-head IsField f fields all in
    ap (λ (t : Bool). cond t f.end (last_end (map row_line fields ++ line [] last ∷ ls)))
    (nonempty f.name (58 ∷ f.raw) f.end is.name.0)
    ∙ last_again fields last ls (All-tail IsField f fields all)

-- the status line

abbrev status_text : ℕ → List ℕ → Option (List ℕ) → List ℕ
status_text minor digits reason = print_version minor ++ 32 ∷ (digits ++ print_reason reason)

reason_again : (reason : Option (List ℕ)) → reason_of (print_reason reason) ≡ reason
reason_again None = refl
reason_again (Some phrase) = refl

-- the tree of a status line and what is below it
abbrev start : ℕ → List ℕ → Option (List ℕ) → LineEnd → List Row → LineEnd → ResponseHead
start minor digits reason end fields last = record {
  blank = [];
  minor = minor;
  digits = digits;
  reason = reason;
  line_end = end;
  fields = fields;
  last = last;
}

status_again : (minor : ℕ) (digits : List ℕ) (reason : Option (List ℕ)) (end : LineEnd) (ls : List Line) → length digits ≡ 3
    → tree (line (status_text minor digits reason) end ∷ ls) ≡ start minor digits reason end (rows ls) (last_end ls)
status_again minor [] reason end ls three = absurd (omega arith)
status_again minor (a ∷ []) reason end ls three = absurd (omega arith)
status_again minor (a ∷ b ∷ []) reason end ls three = absurd (omega arith)
status_again minor (a ∷ b ∷ c ∷ []) reason end ls three =
    let back : 48 + minor - 48 ≡ minor = omega arith in
    ap (λ (m : ℕ). start m (a ∷ b ∷ c ∷ []) (reason_of (print_reason reason)) end (rows ls) (last_end ls)) back
    ∙ ap (λ (r : Option (List ℕ)). start minor (a ∷ b ∷ c ∷ []) r end (rows ls) (last_end ls)) (reason_again reason)
status_again minor (a ∷ b ∷ c ∷ d ∷ digits) reason end ls three = absurd (omega arith)

digit_plain : (b : ℕ) → IsTrue (is_ascii_digit b) → IsTrue (plain b)
digit_plain b digit = grind (arith, nat_tests)

reason_plain : (reason : Option (List ℕ)) → AllPass is_value_byte (reason_phrase reason) → AllPass plain (print_reason reason)
reason_plain None all = λ i x h. absurd (omega arith)
reason_plain (Some phrase) all =
    All-cons (λ b. IsTrue (plain b)) 32 phrase refl
    (All-weaker (λ b. IsTrue (is_value_byte b)) (λ b. IsTrue (plain b)) value_plain phrase all)

one : (b : ℕ) (bs : List ℕ) → IsTrue (plain b) → AllPass plain bs → AllPass plain (b ∷ bs)
one b bs h all = All-cons (λ b. IsTrue (plain b)) b bs h all

minor_plain : (minor : ℕ) → minor ≤ 1 → IsTrue (plain (48 + minor))
minor_plain minor small = grind (arith, nat_tests)

status_plain : (h : ResponseHead) → IsResponseHead h → AllPass plain (status_text h.minor h.digits h.reason)
status_plain h is =
    All-append (λ b. IsTrue (plain b)) (print_version h.minor) (32 ∷ (h.digits ++ print_reason h.reason))
    (All-append (λ b. IsTrue (plain b)) (codes "HTTP/1.") ((48 + h.minor) ∷ [])
    (AllPass-from_list_all plain (codes "HTTP/1.") refl)
    (one (48 + h.minor) [] (minor_plain h.minor is.minor) (λ i x h. absurd (omega arith))))
    (one 32 (h.digits ++ print_reason h.reason) refl
    (All-append (λ b. IsTrue (plain b)) h.digits (print_reason h.reason)
    (All-weaker (λ b. IsTrue (is_ascii_digit b)) (λ b. IsTrue (plain b)) digit_plain h.digits is.digits.1)
    (reason_plain h.reason is.reason)))

blank_again : (ends : List LineEnd) (text : List ℕ) (h : ResponseHead) → tree (lines text) ≡ h → h.blank ≡ []
    → tree (lines (print_blank ends ++ text)) ≡ record h { blank = ends }
blank_again [] text h is none = is ∙ ap (λ (b : List LineEnd). record h { blank = b }) none
blank_again (e ∷ ends) text h is none =
    ap (λ (t : List ℕ). tree (lines t)) (append_assoc (print_end e) (print_blank ends) text)
    ∙ ap tree (line_step [] e (print_blank ends ++ text) (λ i x h. absurd (omega arith)))
    ∙ ap (behind_blank e) (blank_again ends text h is none)

pub tree_again : (bytes : List ℕ) (h : ResponseHead) → IsResponseHead h → bytes ≡ print_response h ++ [] → tree (lines bytes) ≡ h
tree_again bytes h is text =
    let status = status_text h.minor h.digits h.reason in
    let section = section_text h.fields h.last in
    let below = section_lines h.fields h.last is.fields in
    let ls = map row_line h.fields ++ line [] h.last ∷ lines [] in
    let behind : tree (lines (status ++ (print_end h.line_end ++ section))) ≡ start h.minor h.digits h.reason h.line_end h.fields h.last =
    ap tree (line_step status h.line_end section (status_plain h is))
    ∙ ap (λ x. tree (line status h.line_end ∷ x)) below
    ∙ status_again h.minor h.digits h.reason h.line_end ls is.digits.0
    ∙ ap (λ (r : List Row). start h.minor h.digits h.reason h.line_end r (last_end ls)) (rows_again h.fields h.last (lines []) is.fields)
    ∙ ap (λ (e : LineEnd). start h.minor h.digits h.reason h.line_end h.fields e) (last_again h.fields h.last (lines []) is.fields) in
    let shape : bytes ≡ print_blank h.blank ++ (status ++ (print_end h.line_end ++ section)) = text ∙ print_response-append h [] ∙ (simp (append_assoc, append-nil)) in
    ap (λ (t : List ℕ). tree (lines t)) shape
    ∙ blank_again h.blank (status ++ (print_end h.line_end ++ section)) (start h.minor h.digits h.reason h.line_end h.fields h.last) behind refl
