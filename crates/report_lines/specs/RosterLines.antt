-- The lines of the seed, of allowed origins and of requests.
use Rattle.std.specs.Prelude.{ℕ, ◌+◌, List, [], ◌∷◌, ◌++◌, codes, None, Some}
use Rattle.std.specs.declared.option.Option.{Option}
use Rattle.hex.specs.Hex.{encode_lower}
use Rattle.spaces.specs.declared.place.Origin.{Origin}
use Rattle.spaces.specs.declared.roster.Method.{Method}
use Rattle.spaces.specs.declared.roster.Method.TheVariants.{Get, Head}
use Rattle.spaces.specs.declared.roster.Request.{Request}
use Rattle.report_lines.specs.Words.{number, value, origin_text}

-- `seed h`, the seed in hexadecimal digits
abbrev pub seed_line : List ℕ → List ℕ
seed_line seed = codes "seed " ++ encode_lower seed ++ codes "\n"

-- `default host:port`
abbrev pub default_line : Origin → List ℕ
default_line origin = codes "default" ++ value (origin_text origin) ++ codes "\n"

abbrev pub default_lines : List Origin → List ℕ
default_lines [] = []
default_lines (origin ∷ origins) = default_line origin ++ default_lines origins

abbrev pub method_word : Method → List ℕ
method_word Get = codes " GET"
method_word Head = codes " HEAD"

abbrev pub proxy_word : Option Origin → List ℕ
proxy_word None = codes " -"
proxy_word (Some origin) = value (origin_text origin)

-- `request n method partition url proxy`
abbrev pub request_line : ℕ → Request → List ℕ
request_line n request =
    codes "request" ++ number n ++ method_word request.method ++ value request.partition ++ value request.place.text
    ++ proxy_word request.proxy ++ codes "\n"

-- the lines of requests, whose numbers rise from n
abbrev pub request_lines : ℕ → List Request → List ℕ
request_lines n [] = []
request_lines n (request ∷ requests) = request_line n request ++ request_lines (n + 1) requests
