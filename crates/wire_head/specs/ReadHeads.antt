-- A head of a request that is read back: one that is written of fit parts.
use Rattle.std.specs.Prelude.{◌≡◌, ℕ, ◌==◌, ◌&&◌, ◌||◌, not, nat_lt, ⊤, IsSome, Bool, true, false, List, [], ◌∷◌, take, reverse, Option, Some, None}
use Rattle.std.specs.List.{list_all, list_any}
use Rattle.wire_head.specs.declared.head_reader.HeadFault.{HeadFault}
use Rattle.wire_head.specs.declared.head_reader.HeadFault.TheVariants.{Unfinished, NotOurs, NoMemory}
use Rattle.wire_head.specs.declared.head_reader.ReadHead.{ReadHead}
use Rattle.wire_head.specs.Lines.{head_len}
use Rattle.wire_head.specs.RequestHeads.{head}

-- neither CR nor LF
abbrev pub in_line : ℕ → Bool
in_line b = not (b == 13 || b == 10)

-- nor a space
abbrev pub in_target : ℕ → Bool
in_target b = in_line b && not (b == 32)

abbrev pub is_fit_value : Option (List ℕ) → Bool
is_fit_value None = true
is_fit_value (Some value) = list_all in_line value

abbrev pub first_is : ℕ → List ℕ → Bool
first_is b [] = false
first_is b (c ∷ text) = c == b

abbrev pub has_colon : List ℕ → Bool
has_colon host = list_any (λ b. b == 58) host

-- between `[` and `]`
abbrev pub is_bracketed : List ℕ → Bool
is_bracketed host = first_is 91 host && first_is 93 (reverse host)

-- a colon stands in brackets only
abbrev pub is_fit_host : List ℕ → Bool
is_fit_host host = list_all in_line host && (not (has_colon host) || is_bracketed host)

-- the parts are fit to be written
abbrev pub is_fit : ReadHead → Bool
is_fit h =
    list_all in_target h.target && is_fit_value h.proxy && is_fit_value h.server && is_fit_host h.origin.host
    && nat_lt h.origin.port 65536

-- the head of the parts
abbrev pub written : ReadHead → List ℕ
written h = head h.method h.target h.origin h.proxy h.server h.keep

-- the bytes up to and with the first blank line are the head of these fit parts
abbrev pub IsHeadOf : List ℕ → ReadHead → Type 0
IsHeadOf bytes h = (is_fit h ≡ true) × (head_len bytes ≡ Some h.length) × (take h.length bytes ≡ written h)

-- why no head was read: no blank line, or no fit parts have this head
abbrev pub IsNoHeadBy : List ℕ → HeadFault → Type 0
IsNoHeadBy bytes Unfinished = head_len bytes ≡ None
IsNoHeadBy bytes NotOurs = IsSome (head_len bytes) × ((h : ReadHead) → ¬ (IsHeadOf bytes h))
IsNoHeadBy bytes NoMemory = ⊤
