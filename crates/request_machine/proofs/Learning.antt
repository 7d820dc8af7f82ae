-- What the book tells of what is held.
use Rattle.std.proofs.Common.{◌≡◌, Option, None, refl, option_map}
use Rattle.auth_text.specs.Login.{Login}
use Rattle.spaces.specs.declared.site.Target.{Target}
use Rattle.spaces.specs.declared.site.Target.TheVariants.{Server, Proxy, Socks}
use Rattle.spaces.specs.ProtectionSpaces.{ProtectionSpace}
use Rattle.trace_rule.specs.Settings.{Setting}
use Rattle.request_machine.specs.declared.holding.Holding.{Holding}
use Rattle.request_machine.specs.declared.holding.NamedTerms.{NamedTerms}
use Rattle.request_machine.specs.declared.stage.Piece.TheVariants.{Space, Identity, Terms}
use Rattle.request_machine.specs.declared.stage.Stage.TheVariants.{Go, Learn}
use Rattle.request_machine.specs.Kept.{Kept, Ties}
use Rattle.request_machine.specs.Told.{with_space, with_identity, with_named}
use Rattle.request_machine.specs.Changed.{holding, put_held}
use Rattle.request_machine.specs.Linked.{line}
use Rattle.request_machine.specs.Gives.{IsSpaceTold, IsIdentityTold, IsTermsTold}
use Rattle.request_machine.proofs.Starting.{learned_ties, held_with_space, held_with_identity, held_with_named}

-- what is put twice is put once
pub put_twice : (t : Target) (h : Option Holding) (m : Kept) → put_held t h (put_held t None m) ≡ put_held t h m
put_twice Proxy h m = refl
put_twice Server h m = refl
put_twice Socks h m = refl

-- neither the past nor the line is touched
pub put_past : (t : Target) (h : Option Holding) (m : Kept) → (put_held t h (put_held t None m)).past ≡ m.past
put_past Proxy h m = refl
put_past Server h m = refl
put_past Socks h m = refl

pub put_line : (t : Target) (h : Option Holding) (m : Kept) → line (put_held t h (put_held t None m)) ≡ line m
put_line Proxy h m = refl
put_line Server h m = refl
put_line Socks h m = refl

pub space_ties : (s : Setting) (m : Kept) (t : Target) (space : ProtectionSpace) → m.stage ≡ Learn t Space → IsSpaceTold s m t space → Ties s m → Ties s (record (put_held t (option_map (with_space space) (holding m t)) m) { stage = Go })
space_ties s m Proxy space same told t = learned_ties s m Proxy Space (option_map (with_space space) m.proxy) m.server same t (held_with_space s m.past Proxy m.proxy space told t.proxy) t.server
space_ties s m Server space same told t = learned_ties s m Server Space m.proxy (option_map (with_space space) m.server) same t t.proxy (held_with_space s m.past Server m.server space told t.server)
space_ties s m Socks space same told t = learned_ties s m Socks Space m.proxy m.server same t t.proxy t.server

pub identity_ties : (s : Setting) (m : Kept) (t : Target) (identity : Login) → m.stage ≡ Learn t Identity → IsIdentityTold s m t identity → Ties s m → Ties s (record (put_held t (option_map (with_identity identity) (holding m t)) m) { stage = Go })
identity_ties s m Proxy identity same told t = learned_ties s m Proxy Identity (option_map (with_identity identity) m.proxy) m.server same t (held_with_identity s m.past Proxy m.proxy identity told t.proxy) t.server
identity_ties s m Server identity same told t = learned_ties s m Server Identity m.proxy (option_map (with_identity identity) m.server) same t t.proxy (held_with_identity s m.past Server m.server identity told t.server)
identity_ties s m Socks identity same told t = learned_ties s m Socks Identity m.proxy m.server same t t.proxy t.server

pub terms_ties : (s : Setting) (m : Kept) (t : Target) (named : NamedTerms) → m.stage ≡ Learn t Terms → IsTermsTold s m t named → Ties s m → Ties s (record (put_held t (option_map (with_named named) (holding m t)) m) { stage = Go })
terms_ties s m Proxy named same told t = learned_ties s m Proxy Terms (option_map (with_named named) m.proxy) m.server same t (held_with_named s m.past Proxy m.proxy named told t.proxy) t.server
terms_ties s m Server named same told t = learned_ties s m Server Terms m.proxy (option_map (with_named named) m.server) same t t.proxy (held_with_named s m.past Server m.server named told t.server)
terms_ties s m Socks named same told t = learned_ties s m Socks Terms m.proxy m.server same t t.proxy t.server
