-- The parts of a head of a request, as its lines give them.
use Rattle.std.specs.Prelude.{ℕ, ◌+◌, ◌-◌, ◌&&◌, not, nat_lt, Bool, List, [], codes, length, take, drop, reverse, slice_get, bytes_eq, ◌==◌, Option, Some, None, if◌then◌else◌}
use Rattle.std.specs.List.{prefix_len}
use Rattle.std.specs.Str.Parse.{digits_value}
use Rattle.spaces.specs.declared.roster.Method.{Method}
use Rattle.spaces.specs.declared.roster.Method.TheVariants.{Get, Head}
use Rattle.spaces.specs.declared.place.Origin.{Origin}
use Rattle.wire_head.specs.declared.head_reader.ReadHead.{ReadHead}
use Rattle.wire_head.specs.Lines.{cut_at}
use Rattle.wire_head.specs.ReadHeads.{first_is, has_colon, is_fit, written}

-- a line without its CR
abbrev pub bare : List ℕ → List ℕ
bare line = take (length line - 1) line

abbrev pub bare_of : Option (List ℕ) → List ℕ
bare_of None = []
bare_of (Some line) = bare line

abbrev pub line_at : ℕ → List (List ℕ) → List ℕ
line_at k ls = bare_of (slice_get ls k)

-- what stands behind a name
abbrev pub behind_name : List ℕ → List ℕ → Option (List ℕ)
behind_name name line = if bytes_eq (take (length name) line) name then Some (drop (length name) line) else None

-- the line behind a field, where there is one
abbrev pub next_line : Option (List ℕ) → ℕ → ℕ
next_line None at = at
next_line (Some value) at = at + 1

-- up to the first space
abbrev pub word : List ℕ → List ℕ
word text = take (prefix_len (λ b. not (b == 32)) text) text

abbrev pub is_head_line : List ℕ → Bool
is_head_line line = bytes_eq (take 5 line) (codes "HEAD ")

abbrev pub method_of : List ℕ → Method
method_of line = if is_head_line line then Head else Get

abbrev pub target_of : List ℕ → List ℕ
target_of line = if is_head_line line then word (drop 5 line) else word (drop 4 line)

-- the bytes behind the last colon, from the end
abbrev pub port_len : List ℕ → ℕ
port_len text = prefix_len (λ b. not (b == 58)) (reverse text)

abbrev pub has_port : List ℕ → Bool
has_port text = has_colon text && not (first_is 93 (reverse text))

abbrev pub host_of : List ℕ → List ℕ
host_of text = if has_port text then take (length text - (port_len text + 1)) text else text

abbrev pub port_number : ℕ → Option ℕ
port_number n = if nat_lt 65535 n then None else Some n

abbrev pub port_of : List ℕ → Option ℕ
port_of text =
    if has_port text then port_number (digits_value 10 (drop (length text - port_len text) text)) else Some 80

abbrev pub with_port : List ℕ → Option ℕ → Option Origin
with_port host None = None
with_port host (Some port) = Some (record { host = host; port = port })

abbrev pub origin_of : List ℕ → Option Origin
origin_of text = with_port (host_of text) (port_of text)

abbrev pub is_keep_alive : List ℕ → Bool
is_keep_alive line = bytes_eq line (codes "Connection: keep-alive")

abbrev pub with_origin : ℕ → Method → List ℕ → Option Origin → Option (List ℕ) → Option (List ℕ) → Bool → Option ReadHead
with_origin n method target None proxy server keep = None
with_origin n method target (Some origin) proxy server keep =
    Some (record { method = method; target = target; origin = origin; proxy = proxy; server = server; keep = keep; length = n })

abbrev pub with_server : ℕ → Method → List ℕ → List ℕ → Option (List ℕ) → Option (List ℕ) → ℕ → List (List ℕ) → Option ReadHead
with_server n method target host proxy server at ls =
    with_origin n method target (origin_of host) proxy server (is_keep_alive (line_at (next_line server at) ls))

abbrev pub with_proxy : ℕ → Method → List ℕ → List ℕ → Option (List ℕ) → ℕ → List (List ℕ) → Option ReadHead
with_proxy n method target host proxy at ls =
    with_server n method target host proxy (behind_name (codes "Authorization: ") (line_at (next_line proxy at) ls)) (next_line proxy at) ls

-- the parts that the lines of a head of so many bytes give
abbrev pub from_lines : ℕ → List (List ℕ) → Option ReadHead
from_lines n ls =
    with_proxy n (method_of (line_at 0 ls)) (target_of (line_at 0 ls)) (drop 6 (line_at 1 ls))
    (behind_name (codes "Proxy-Authorization: ") (line_at 2 ls)) 2 ls

-- they are the parts where they are fit and their head is the text
abbrev pub if_written : List ℕ → Option ReadHead → Option ReadHead
if_written text None = None
if_written text (Some h) = if is_fit h && bytes_eq (written h) text then Some h else None

abbrev pub head_read : List ℕ → Option ReadHead
head_read text = if_written text (from_lines (length text) (cut_at 10 text))
