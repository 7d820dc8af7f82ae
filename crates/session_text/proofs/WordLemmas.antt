-- What `percent_encoding` writes is the word, and a word reads back.
use Rattle.std.proofs.Common.{◌≡◌, ℕ, ◌<◌, Bool, true, false, cond, List, [], ◌∷◌, codes, refl, sym, ◌∙◌, ap}
use Rattle.std.specs.Prelude.{All, bytes_eq}
use Rattle.std.specs.List.{flat_map}
use Rattle.std.proofs.lemmas.Bool.{agree_below_at, true≢false}
use Rattle.std.proofs.lemmas.Slice.Eq.{bytes_eq-Decides}
use Rattle.std.proofs.lemmas.List.Elements.{All-head, All-tail}
use Rattle.percent_encoding.specs.AsciiSet.{should_percent_encode}
use Rattle.percent_encoding.specs.Percent.{percent_encode, percent_encode_byte, encode_byte, percent_decode}
use Rattle.percent_encoding.proofs.PercentLemmas.{round_trip}
use Rattle.session_text.specs.declared.word.TheConstants.{ESCAPED}
use Rattle.session_text.specs.Words.{escaped, word_of, word_value}

same_bytes : (xs ys : List ℕ) → bytes_eq xs ys ≡ true → xs ≡ ys
same_bytes xs ys h = (bytes_eq-Decides xs ys).0 h

same_escape : (b : ℕ) → b < 256 → encode_byte ESCAPED b ≡ escaped b
unfolding should_percent_encode percent_encode_byte
same_escape b small =
    same_bytes _ _ (agree_below_at (λ b. bytes_eq (encode_byte ESCAPED b) (escaped b)) (λ b. true) 256 b refl small)

pub same_encoding : (bytes : List ℕ) → All (λ b. b < 256) bytes → percent_encode ESCAPED bytes ≡ flat_map escaped bytes
unfolding percent_encode
same_encoding [] small = refl
same_encoding (b ∷ bytes) small =
    let rest = same_encoding bytes (All-tail (λ b. b < 256) b bytes small) in
    let first = same_escape b (All-head (λ b. b < 256) b bytes small) in rw (first, rest) refl

-- bytes whose decoding isn't `-` aren't `-`
by_test : (v w : List ℕ) (t : Bool) → bytes_eq w (codes "-") ≡ t → percent_decode w ≡ v
    → bytes_eq v (codes "-") ≡ false → cond t [] (percent_decode w) ≡ v
unfolding percent_decode
by_test v w false h back other = back
by_test v w true h back other =
    let dash : v ≡ codes "-" = sym back ∙ ap percent_decode (same_bytes w (codes "-") h) in
    absurd (true≢false (sym ((bytes_eq-Decides v (codes "-")).1 dash) ∙ other))

by_value : (v : List ℕ) (t : Bool) → bytes_eq v (codes "-") ≡ t → All (λ b. b < 256) v
    → word_value (cond t (codes "%2D") (flat_map escaped v)) ≡ v
unfolding percent_decode
by_value v true h small = sym (same_bytes v (codes "-") h)
by_value v false h small =
    by_test v (flat_map escaped v) (bytes_eq (flat_map escaped v) (codes "-")) refl
    (ap percent_decode (sym (same_encoding v small)) ∙ round_trip ESCAPED v refl small) h

pub word_again : (value : List ℕ) → All (λ b. b < 256) value → word_value (word_of value) ≡ value
word_again [] small = refl
word_again (b ∷ bytes) small = by_value (b ∷ bytes) (bytes_eq (b ∷ bytes) (codes "-")) refl small
