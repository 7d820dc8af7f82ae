-- A whole head of a reply (RFC 9112, as httparse reads it).
use Rattle.std.specs.Prelude.{◌≡◌, ℕ, ◌+◌, ◌-◌, ◌≤◌, ◌==◌, ◌&&◌, Bool, true, false, nat_le, List, [], ◌∷◌, map, length, reverse, take, drop, slice_index, bytes_eq, Option, Some, None, if◌then◌else◌}
use Rattle.std.specs.List.{list_all, prefix_len}
use Rattle.std.specs.Char.{is_ascii_digit}
use Rattle.httparse.specs.Grammar.{LineEnd, crlf, lf, Field as Row, ResponseHead, ReadsResponse, print_response, status_code, is_token, is_token_byte, is_value_byte, reason_phrase}
use Rattle.httparse.specs.Spans.{name_and_value}
use Rattle.wire_head.specs.declared.response_head.Field.{Field}
use Rattle.wire_head.specs.declared.response_head.ReplyHead.{ReplyHead}
use Rattle.wire_head.specs.Lines.{cut_at}

-- the bytes are the head, all of them, in a room of 256 fields
abbrev pub IsHead : List ℕ → ResponseHead → Type 0
IsHead bytes h = ReadsResponse bytes h [] × (length h.fields ≤ 256)

abbrev pub IsNoHead : List ℕ → Type 0
IsNoHead bytes = (h : ResponseHead) → ¬ (IsHead bytes h)

abbrev pub field_of : List ℕ × List ℕ → Field
field_of f = record { name = f.0; value = f.1 }

-- what is kept of a head
abbrev pub head_read : ResponseHead → ReplyHead
head_read h = record { code = status_code h; minor = h.minor; fields = map field_of (map name_and_value h.fields) }

abbrev pub IsHeadRead : List ℕ → ReplyHead → Type 0
IsHeadRead bytes read = (h : ResponseHead) × IsHead bytes h × (read ≡ head_read h)

-- The same, computed: the tree that the lines give, where it is a head and spells the bytes.

-- a line without its end
pub record Line : Type 0 where
  pub text : List ℕ
  pub end : LineEnd

abbrev pub from_back : List ℕ → Line
from_back [] = record { text = []; end = lf }
from_back (b ∷ back) =
    if b == 13 then record { text = reverse back; end = crlf } else record { text = reverse (b ∷ back); end = lf }

-- a line up to its LF, where a CR at its end belongs to the end
abbrev pub line_of : List ℕ → Line
line_of bytes = from_back (reverse bytes)

abbrev pub lines : List ℕ → List Line
lines bytes = map line_of (cut_at 10 bytes)

abbrev pub row_of : Line → Row
row_of l = record {
  name = take (prefix_len is_token_byte l.text) l.text;
  raw = drop (prefix_len is_token_byte l.text + 1) l.text;
  end = l.end;
}

abbrev pub is_empty : List ℕ → Bool
is_empty [] = true
is_empty (b ∷ text) = false

abbrev pub is_blank : Line → Bool
is_blank l = is_empty l.text

-- the rows up to the blank line, and the end of that
abbrev pub rows : List Line → List Row
rows [] = []
rows (l ∷ ls) = if is_blank l then [] else row_of l ∷ rows ls

abbrev pub last_end : List Line → LineEnd
last_end [] = lf
last_end (l ∷ ls) = if is_blank l then l.end else last_end ls

abbrev pub reason_of : List ℕ → Option (List ℕ)
reason_of [] = None
reason_of (b ∷ phrase) = Some phrase

-- a status line and what follows it
abbrev pub tree_from : Line → List Line → ResponseHead
tree_from l ls = record {
  blank = [];
  minor = slice_index l.text 7 - 48;
  digits = take 3 (drop 9 l.text);
  reason = reason_of (drop 12 l.text);
  line_end = l.end;
  fields = rows ls;
  last = last_end ls;
}

abbrev pub no_line : Line
no_line = record { text = []; end = lf }

-- a blank line before the tree
abbrev pub behind_blank : LineEnd → ResponseHead → ResponseHead
behind_blank end h = record {
  blank = end ∷ h.blank;
  minor = h.minor;
  digits = h.digits;
  reason = h.reason;
  line_end = h.line_end;
  fields = h.fields;
  last = h.last;
}

abbrev pub tree : List Line → ResponseHead
tree [] = tree_from no_line []
tree (l ∷ ls) = if is_blank l then behind_blank l.end (tree ls) else tree_from l ls

abbrev pub is_row : Row → Bool
is_row r = is_token r.name && list_all is_value_byte r.raw

-- each part of the tree is of its class, and the tree spells the bytes
abbrev pub is_head : List ℕ → ResponseHead → Bool
is_head bytes h =
    nat_le h.minor 1 && (length h.digits == 3) && list_all is_ascii_digit h.digits
    && list_all is_value_byte (reason_phrase h.reason) && list_all is_row h.fields
    && bytes_eq bytes (print_response h) && nat_le (length h.fields) 256

-- what the bytes say as a head, where they are one
abbrev pub reply_head : List ℕ → Option ReplyHead
reply_head bytes = if is_head bytes (tree (lines bytes)) then Some (head_read (tree (lines bytes))) else None
