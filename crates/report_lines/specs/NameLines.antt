-- The lines of spaces, Digest terms and texts.
use Rattle.std.specs.Prelude.{ℕ, ◌+◌, Bool, true, false, List, [], ◌∷◌, ◌++◌, codes, None, Some}
use Rattle.std.specs.declared.option.Option.{Option}
use Rattle.auth_text.specs.Login.{Login}
use Rattle.spaces.specs.declared.site.Site.{Site}
use Rattle.spaces.specs.ProtectionSpaces.{ProtectionSpace}
use Rattle.spaces.specs.declared.terms.Algorithm.{Algorithm}
use Rattle.spaces.specs.declared.terms.Algorithm.TheVariants.{Md5, Sha256}
use Rattle.spaces.specs.declared.terms.Qop.{Qop}
use Rattle.spaces.specs.declared.terms.Qop.TheVariants.{Auth, Missing}
use Rattle.spaces.specs.declared.terms.Terms.{Terms}
use Rattle.auth_events.specs.declared.names.TermsName.{TermsName}
use Rattle.report_lines.specs.Words.{number, value, origin_text, target_word, scheme_word}

-- `partition target host:port`
abbrev pub site_words : Site → List ℕ
site_words site = value site.partition ++ target_word site.target ++ value (origin_text site.origin)

-- `space n partition target host:port scheme realm`
abbrev pub space_line : ℕ → ProtectionSpace → List ℕ
space_line n space =
    codes "space" ++ number n ++ site_words space.site ++ scheme_word space.scheme ++ value space.realm ++ codes "\n"

-- the lines of spaces, whose numbers rise from n
abbrev pub space_lines : ℕ → List ProtectionSpace → List ℕ
space_lines n [] = []
space_lines n (space ∷ spaces) = space_line n space ++ space_lines (n + 1) spaces

abbrev pub algorithm_word : Algorithm → List ℕ
algorithm_word Md5 = codes " MD5"
algorithm_word Sha256 = codes " SHA-256"

abbrev pub said_word : Bool → List ℕ
said_word true = codes " said"
said_word false = codes " unsaid"

abbrev pub qop_word : Qop → List ℕ
qop_word Auth = codes " auth"
qop_word Missing = codes " missing"

abbrev pub opaque_words : Option (List ℕ) → List ℕ
opaque_words None = codes " noopaque"
opaque_words (Some opaque) = codes " opaque" ++ value opaque

-- the last word, where the user's name goes out as its hash
abbrev pub userhash_word : Bool → List ℕ
userhash_word true = codes " userhash"
userhash_word false = []

-- `algorithm said qop noncetext opaque userhash`
abbrev pub terms_words : Terms → List ℕ
terms_words terms =
    algorithm_word terms.algorithm ++ said_word terms.said ++ qop_word terms.qop ++ value terms.nonce ++ opaque_words terms.opaque
    ++ userhash_word terms.userhash

-- `terms n space nonce ..`
abbrev pub terms_line : ℕ → TermsName → List ℕ
terms_line n name = codes "terms" ++ number n ++ number name.space ++ number name.nonce ++ terms_words name.terms ++ codes "\n"

-- the lines of terms, whose numbers rise from n
abbrev pub terms_lines : ℕ → List TermsName → List ℕ
terms_lines n [] = []
terms_lines n (name ∷ names) = terms_line n name ++ terms_lines (n + 1) names

-- `text n user password`
abbrev pub text_line : ℕ → Login → List ℕ
text_line n login = codes "text" ++ number n ++ value login.user ++ value login.password ++ codes "\n"

-- the lines of texts, whose numbers rise from n
abbrev pub text_lines : ℕ → List Login → List ℕ
text_lines n [] = []
text_lines n (login ∷ logins) = text_line n login ++ text_lines (n + 1) logins
