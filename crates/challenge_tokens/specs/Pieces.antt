-- The piece rule: what a list of challenges gives (after RFC 7235, section 2.1).
use Rattle.std.specs.Prelude.{ℕ, ◌+◌, Bool, true, false, not, ◌&&◌, ◌==◌, nat_lt, List, [], ◌∷◌, ◌++◌, length, map, filter, Option, Some, None, if◌then◌else◌}
use Rattle.std.specs.List.{prefix_len}
use Rattle.field_lists.specs.Blanks.{is_blank, trim_start, trim_end}
use Rattle.challenge_tokens.specs.declared.challenge.Challenge.{Challenge}
use Rattle.challenge_tokens.specs.declared.params.Param.{Param}
use Rattle.challenge_tokens.specs.declared.challenge.FieldRead.{FieldRead}
use Rattle.challenge_tokens.specs.declared.challenge.Body.{Body}
use Rattle.challenge_tokens.specs.declared.challenge.Body.TheVariants.{Bare as NoBody, Token68, Params}
use Rattle.challenge_tokens.specs.declared.piece.Form.{Form}
use Rattle.challenge_tokens.specs.declared.piece.Form.TheVariants.{Bare, WithToken, WithParam, Parameter, Bad}
use Rattle.challenge_tokens.specs.declared.piece.Quoting.{Quoting}
use Rattle.challenge_tokens.specs.declared.piece.Quoting.TheVariants.{Outside, Inside, Escaped}
use Rattle.challenge_tokens.specs.Names.{has_name}
use Rattle.challenge_tokens.specs.Forms.{after_byte, form_of}

-- ---- the cut at the commas outside quoted strings

-- outside quoted strings
abbrev pub is_outside : Quoting → Bool
is_outside Outside = true
is_outside Inside = false
is_outside Escaped = false

-- a piece, and the place of its first byte in the value
pub record Piece : Type 0 where
  pub at : ℕ
  pub bytes : List ℕ

-- the byte, at this place, before the first piece
abbrev pub before_first : ℕ → ℕ → List Piece → List Piece
before_first at b [] = record { at = at; bytes = b ∷ [] } ∷ []
before_first at b (p ∷ ps) = record { at = at; bytes = b ∷ p.bytes } ∷ ps

-- the pieces of a text that begins at this place
abbrev pub cut : Quoting → ℕ → List ℕ → List Piece
cut q at [] = record { at = at; bytes = [] } ∷ []
cut q at (b ∷ bytes) =
    if b == 44 && is_outside q then record { at = at; bytes = [] } ∷ cut Outside (at + 1) bytes
    else before_first at b (cut (after_byte q b) (at + 1) bytes)

-- ---- without SP and HTAB at both ends, and with none empty

-- a piece without the blanks at both ends, and the place of its first byte
abbrev pub trimmed : Piece → Piece
trimmed p = record { at = p.at + prefix_len is_blank p.bytes; bytes = trim_end (trim_start p.bytes) }

-- not empty
abbrev pub is_piece : Piece → Bool
is_piece p = nat_lt 0 (length p.bytes)

-- the pieces of a text that begins at this place, trimmed, and none empty
abbrev pub pieces_from : ℕ → List ℕ → List Piece
pieces_from at text = filter is_piece (map trimmed (cut Outside at text))

-- a piece as its form
pub record Formed : Type 0 where
  pub at : ℕ
  pub form : Form

-- a piece as its form
abbrev pub formed : Piece → Formed
formed p = record { at = p.at; form = form_of p.bytes }

-- the forms of the pieces of a text that begins at this place
abbrev pub forms_from : ℕ → List ℕ → List Formed
forms_from at text = map formed (pieces_from at text)

-- ---- which piece is the first bad one

-- what the pieces so far leave: no challenge, one that takes parameters, or one that has a token68
pub data Open : Type 0 where
  none taking full : Open

-- what a good piece leaves
abbrev pub after_form : Open → Form → Open
after_form o (Bare s) = taking
after_form o (WithToken s t) = full
after_form o (WithParam s p) = taking
after_form o (Parameter p) = o
after_form o Bad = o

-- a parameter can join
abbrev pub is_taking : Open → Bool
is_taking none = false
is_taking taking = true
is_taking full = false

-- a piece of this form is bad: no form, or a parameter that nothing takes
abbrev pub is_bad : Open → Form → Bool
is_bad o (Bare s) = false
is_bad o (WithToken s t) = false
is_bad o (WithParam s p) = false
is_bad o (Parameter p) = not (is_taking o)
is_bad o Bad = true

-- the pieces before the first bad one
abbrev pub good : Open → List Formed → List Formed
good o [] = []
good o (p ∷ ps) = if is_bad o p.form then [] else p ∷ good (after_form o p.form) ps

-- the place of the first bad one
abbrev pub bad_place : Open → List Formed → Option ℕ
bad_place o [] = None
bad_place o (p ∷ ps) = if is_bad o p.form then Some p.at else bad_place (after_form o p.form) ps

-- ---- the challenges of good pieces

-- with one more parameter, unless its name is there
abbrev pub join : List Param → Param → List Param
join ps p = if has_name p.name ps then ps else ps ++ p ∷ []

-- with more parameters, the first of each name
abbrev pub distinct : List Param → List Param → List Param
distinct kept [] = kept
distinct kept (p ∷ ps) = distinct (join kept p) ps

-- a body with more parameters; a token68 takes none
abbrev pub extend : Body → List Param → Body
extend body [] = body
extend NoBody (p ∷ ps) = Params (distinct [] (p ∷ ps))
extend (Params kept) (p ∷ ps) = Params (distinct kept (p ∷ ps))
extend (Token68 token) (p ∷ ps) = Token68 token

-- parameters can join the body
abbrev pub takes_params : Body → Bool
takes_params NoBody = true
takes_params (Params kept) = true
takes_params (Token68 token) = false

-- a challenge of this scheme and these parameters
abbrev pub begun : List ℕ → List Param → Challenge
begun scheme ps = record { scheme = scheme; body = extend NoBody ps }

-- parameters whose head stands before them, and the challenges behind them
pub record Grouped : Type 0 where
  pub waiting : List Param
  pub challenges : List Challenge

-- a piece before what is grouped: a head takes the parameters that wait, a parameter waits
abbrev pub group : Form → Grouped → Grouped
group (Bare s) g = record { waiting = []; challenges = begun s g.waiting ∷ g.challenges }
group (WithToken s t) g = record { waiting = []; challenges = record { scheme = s; body = Token68 t } ∷ g.challenges }
group (WithParam s p) g = record { waiting = []; challenges = begun s (p ∷ g.waiting) ∷ g.challenges }
group (Parameter p) g = record { waiting = p ∷ g.waiting; challenges = g.challenges }
group Bad g = g

-- pieces as challenges
abbrev pub grouped : List Formed → Grouped
grouped [] = record { waiting = []; challenges = [] }
grouped (p ∷ ps) = group p.form (grouped ps)

-- what the value gives
abbrev pub field_read : List ℕ → FieldRead
field_read value =
    let ps = forms_from 0 value in
    record { challenges = (grouped (good none ps)).challenges; bad_at = bad_place none ps }
