-- Replies over a free link.
use Rattle.std.proofs.Common.{◌≤◌, ◌≡◌, ℕ, ◌+◌, true, false, nat_le, List, Option, ap, sym, subst, IfSome, ◌∙◌, arith, ◌<◌}
use Rattle.spaces.specs.declared.roster.Request.{Request}
use Rattle.spaces.specs.declared.site.Target.{Target}
use Rattle.spaces.specs.declared.site.Target.TheVariants.{Server, Proxy, Socks}
use Rattle.spaces.specs.declared.terms.Terms.{Terms}
use Rattle.spaces.specs.ProtectionSpaces.{ProtectionSpace}
use Rattle.wire_head.specs.declared.reply.Reply.{Reply}
use Rattle.trace_rule.specs.Settings.{Setting}
use Rattle.trace_rule.specs.Challenges.{challenged}
use Rattle.link_trait.specs.declared.links.LinkName.{LinkName}
use Rattle.request_machine.specs.declared.stage.Stage.TheVariants.{Read}
use Rattle.request_machine.specs.Kept.{Kept, IsKept, Ties, IsTied}
use Rattle.request_machine.specs.Changed.{holding}
use Rattle.request_machine.specs.Told.{IsReady}
use Rattle.request_machine.specs.Replies.{challenged_told}
use Rattle.request_machine.proofs.Beside.{linked_ties}

-- whom a reply challenges, by what was told of the route
pub challenged_is_told : (s : Setting) (m : Kept) (reply : Reply) (o : Option Target) → challenged_told m.is_proxied reply.code ≡ o → Ties s m → challenged s reply ≡ o
challenged_is_told s m reply o told t = ap (λ b. challenged_told b reply.code) t.route ∙ told

-- what is to be named, and the peer's token, play no part before they are asked for
peered_ties : (s : Setting) (m : Kept) (space : Option ProtectionSpace) (terms : Option Terms) (peer : Option (List ℕ)) → IsKept s (record m { unnamed_space = space; unnamed_terms = terms; peer = peer }) m.stage → Ties s m
    → Ties s (record m { unnamed_space = space; unnamed_terms = terms; peer = peer })
peered_ties s m space terms peer kept t = record {
  same_number = t.same_number;
  same_seed = t.same_seed;
  passes_over = t.passes_over;
  route = t.route;
  stage = t.stage;
  proxy = t.proxy;
  server = t.server;
  drawn_proxy = t.drawn_proxy;
  drawn_server = t.drawn_server;
  noted_proxy = t.noted_proxy;
  noted_server = t.noted_server;
  links = t.links;
  heads = t.heads;
  code = t.code;
  rounds = t.rounds;
  is_dialed = t.is_dialed;
  stays = t.stays;
  has_lost = t.has_lost;
  has_none = t.has_none;
  ended = t.ended;
  may_stop = t.may_stop;
  prompt = t.prompt;
  open_still = t.open_still;
  kept = kept;
}

pub unnamed_ties : (s : Setting) (m : Kept) (space : Option ProtectionSpace) (terms : Option Terms) → IsKept s (record m { unnamed_space = space; unnamed_terms = terms }) m.stage → Ties s m
    → Ties s (record m { unnamed_space = space; unnamed_terms = terms })
unnamed_ties s m space terms kept t = peered_ties s m space terms m.peer kept t

pub read_unnamed : (s : Setting) (m : Kept) (link : ℕ) (terms : Option Terms) → m.stage ≡ Read link → Ties s m → Ties s (record m { unnamed_terms = terms })
read_unnamed s m link terms same t = unnamed_ties s m m.unnamed_space terms (subst (IsKept s (record m { unnamed_terms = terms })) (sym same) (subst (IsKept s m) same t.kept)) t

pub read_peer : (s : Setting) (m : Kept) (link : ℕ) (peer : Option (List ℕ)) → m.stage ≡ Read link → Ties s m → Ties s (record m { peer = peer })
read_peer s m link peer same t = peered_ties s m m.unnamed_space m.unnamed_terms peer (subst (IsKept s (record m { peer = peer })) (sym same) (subst (IsKept s m) same t.kept)) t

-- before a reply all is told of what is held
pub ready_at : (m : Kept) (request : Request) (link : ℕ) (t : Target) → m.stage ≡ Read link → IsTied m request → IfSome (holding m t) IsReady
ready_at m request link t same tied = at t (subst (IsKept tied.0 m) same tied.2.kept)
  where
    at : (t : Target) → IfSome m.proxy IsReady × IfSome m.server IsReady → IfSome (holding m t) IsReady
    at Proxy ready = ready.0
    at Server ready = ready.1
    at Socks ready = tt

pub linked_tied : (m : Kept) (request : Request) (link : Option LinkName) → IsTied m request → IsTied (record m { link = link }) request
linked_tied m request link tied = (tied.0, tied.1, linked_ties tied.0 m link tied.2)

pub few_rounds : (n : ℕ) → n < 16 → nat_le 17 (n + 1) ≡ false
few_rounds n few = grind (arith, few)

pub all_rounds : (n : ℕ) → 16 ≤ n → nat_le 17 (n + 1) ≡ true
all_rounds n all = grind (arith, all)
