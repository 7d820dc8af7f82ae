-- The line of a text is read as that text.
use Rattle.std.proofs.Common.{◌≡◌, ℕ, ◌^◌, ◌<◌, ◌==◌, Bool, true, false, not, List, [], ◌∷◌, codes, Option, Some, None, refl, ap, ◌∙◌, arith}
use Rattle.std.specs.Prelude.{is_none}
use Rattle.std.specs.List.{list_any, position_from}
use Rattle.std.specs.Result.{result_ok}
use Rattle.std.specs.Fmt.{decimal}
use Rattle.std.proofs.lemmas.Bool.{false≢true}
use Rattle.auth_text.specs.Login.{Login, login, is_login, is_control, login_text, unless_control}
use Rattle.session_text.specs.Words.{word_of}
use Rattle.report_lines.specs.NameLines.{text_line}
use Rattle.report_reading.specs.Words.{◌>>=◌}
use Rattle.report_reading.specs.Forms.{text_form}
use Rattle.report_reading.specs.Reading.{if_written, text_at}
use Rattle.report_laws.specs.Ranges.{TextHolds}
use Rattle.report_reading.proofs.Tests.{both}
use Rattle.report_laws.proofs.WordLemmas.{all_plain, words_again, plain_decimal, plain_word, value_again}
use Rattle.report_laws.proofs.LinesAgain.{taken}

-- TEXTS

is_not : (a : Bool) → not a ≡ true → a ≡ false
is_not true h = absurd (false≢true h)
is_not false h = refl

no_control : (o : Option ℕ) (user password : List ℕ) → is_none o ≡ true
    → result_ok (unless_control o user password) ≡ Some (record { user = user; password = password })
no_control None user password h = refl
no_control (Some at) user password h = absurd (false≢true h)

login_again : (user password : List ℕ) → is_login user password ≡ true → result_ok (login user password) ≡ Some (record { user = user; password = password })
login_again user password h =
    let a = both (not (list_any (λ b. b == 58) user)) (is_none (position_from is_control 0 (login_text user password))) h in
    let none = is_not (list_any (λ b. b == 58) user) a.0 in
    rw none (no_control (position_from is_control 0 (login_text user password)) user password a.1)

pub text_words_plain : (n : ℕ) (text : Login) → n < 2 ^ 32 → TextHolds text → all_plain (decimal n ∷ word_of text.user ∷ word_of text.password ∷ []) ≡ true
text_words_plain n text small h = rw (plain_decimal n (omega (arith, small)), plain_word text.user h.user, plain_word text.password h.password) refl

pub text_again : (n : ℕ) (text : Login) → n < 2 ^ 32 → TextHolds text → text_at n (text_line n text) ≡ Some text
text_again n text small h =
    let ws = words_again (codes "text") (decimal n ∷ word_of text.user ∷ word_of text.password ∷ []) refl (text_words_plain n text small h) in
    let form : text_form (codes "text" ∷ decimal n ∷ word_of text.user ∷ word_of text.password ∷ []) ≡ Some text =
    rw (value_again text.user h.user, value_again text.password h.password) (login_again text.user text.password h.fit) in
    ap (λ (vs : List (List ℕ)). text_form vs >>= if_written (text_line n) (text_line n text)) ws
    ∙ ap (λ (o : Option Login). o >>= if_written (text_line n) (text_line n text)) form
    ∙ taken (text_line n) text
