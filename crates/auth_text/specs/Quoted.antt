-- Quoted strings (RFC 7230, section 3.2.6).
use Rattle.std.specs.Prelude.{ℕ, ◌+◌, Bool, true, false, ◌||◌, ◌==◌, List, [], ◌∷◌, ◌++◌, Option, Some, None, option_map, Result, Ok, Err, if◌then◌else◌}
use Rattle.std.specs.List.{flat_map}
use Rattle.auth_text.specs.declared.quoted.QuoteFault.{QuoteFault}
use Rattle.auth_text.specs.declared.quoted.QuoteFault.TheVariants.{NotQuoted, Unclosed}

-- bytes before a value, and how many bytes stood for them
abbrev pub behind : List ℕ → ℕ → Option (List ℕ × ℕ) → Option (List ℕ × ℕ)
behind front n found = option_map (λ x. (front ++ x.0, n + x.1)) found

-- the value up to the closing quote, and the bytes up to and with it; the first byte may be escaped
abbrev pub closing : Bool → List ℕ → Option (List ℕ × ℕ)
closing is_escaped [] = None
closing true (b ∷ bytes) = behind (b ∷ []) 1 (closing false bytes)
closing false (b ∷ bytes) =
    if b == 92 then behind [] 1 (closing true bytes)
    else (if b == 34 then Some ([], 1) else behind (b ∷ []) 1 (closing false bytes))

-- what was found behind the opening quote, with that quote counted
abbrev pub if_closed : Option (List ℕ × ℕ) → Result (List ℕ × ℕ) QuoteFault
if_closed (Some x) = Ok (x.0, 1 + x.1)
if_closed None = Err Unclosed

-- the value of the quoted string at the front, and its length
abbrev pub quoted : List ℕ → Result (List ℕ × ℕ) QuoteFault
quoted [] = Err NotQuoted
quoted (b ∷ bytes) = if b == 34 then if_closed (closing false bytes) else Err NotQuoted

-- a byte of a value, with a backslash before it where it is a quote or a backslash
abbrev pub escaped_byte : ℕ → List ℕ
escaped_byte b = if b == 34 || b == 92 then 92 ∷ b ∷ [] else b ∷ []

-- the quoted string of a value
abbrev pub quoted_text : List ℕ → List ℕ
quoted_text value = 34 ∷ flat_map escaped_byte value ++ 34 ∷ []
