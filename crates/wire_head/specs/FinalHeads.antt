-- What a reply carries of its final head.
use Rattle.std.specs.Prelude.{◌≡◌, ℕ, suc, zero, ◌-◌, ◌==◌, ◌&&◌, not, nat_le, Bool, false, List, [], ◌∷◌, codes, length, take, Option, Some, None, Ok, if◌then◌else◌}
use Rattle.spaces.specs.declared.roster.Method.{Method}
use Rattle.wire_head.specs.declared.reply.Reply.{Reply}
use Rattle.wire_head.specs.declared.response_head.ReplyHead.{ReplyHead}
use Rattle.wire_head.specs.Lines.{head_len}
use Rattle.wire_head.specs.HeaderFields.{values_of}
use Rattle.wire_head.specs.ResponseHeads.{reply_head}
use Rattle.wire_head.specs.Replies.{front_len, is_challenge, is_interim, reply}

-- this head, or behind an interim one the later one
abbrev pub unless_interim : Option ReplyHead → Option ReplyHead → Option ReplyHead
unless_interim None later = None
unless_interim (Some h) later = if is_interim h.code then later else Some h

-- the first head that is no interim one, behind one of which `skip` bytes more follow
abbrev pub final_from : ℕ → List ℕ → Option ReplyHead
final_from skip [] = None
final_from (suc skip) (b ∷ text) = final_from skip text
final_from zero (b ∷ text) =
    unless_interim (reply_head (take (front_len (head_len (b ∷ text)) (b ∷ text)) (b ∷ text)))
    (final_from (front_len (head_len (b ∷ text)) (b ∷ text) - 1) text)

abbrev pub final_head : List ℕ → Option ReplyHead
final_head text = final_from 0 text

-- the bytes show this reply, where more may come or where the stream has ended
abbrev pub IsShown : List ℕ → Reply → Type 0
IsShown text r = (method : Method) × (ended : Bool) × (n : ℕ) × (reply method text ended ≡ Ok (Some (r, n)))

-- the reply's challenges and infos are the values of the head's fields of their names, in order
pub record Carries (h : ReplyHead) (r : Reply) : Type 0 where
  pub same_code : r.code ≡ h.code
  pub of_server : r.code ≡ 401 → r.fields ≡ values_of (codes "WWW-Authenticate") h.fields
  pub of_proxy : r.code ≡ 407 → r.fields ≡ values_of (codes "Proxy-Authenticate") h.fields
  pub told_by_server : is_challenge r.code ≡ false → r.server_info ≡ values_of (codes "Authentication-Info") h.fields
  pub told_by_proxy : is_challenge r.code ≡ false → r.proxy_info ≡ values_of (codes "Proxy-Authentication-Info") h.fields

-- three digits, and no interim reply's code
abbrev pub is_final : ℕ → Bool
is_final code = nat_le code 999 && not (is_interim code)

-- a challenge has no infos, and another reply has no challenges
abbrev pub values_fit : Reply → Bool
values_fit r =
    if is_challenge r.code then length r.server_info == 0 && length r.proxy_info == 0 else length r.fields == 0
