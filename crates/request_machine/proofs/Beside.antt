-- The link and the space that is asked for stand beside what the past says.
use Rattle.std.proofs.Common.{Option}
use Rattle.spaces.specs.declared.site.Target.TheVariants.{Server, Proxy, Socks}
use Rattle.spaces.specs.ProtectionSpaces.{ProtectionSpace}
use Rattle.trace_rule.specs.Settings.{Setting}
use Rattle.link_trait.specs.declared.links.LinkName.{LinkName}
use Rattle.request_machine.specs.declared.stage.Stage.{Stage}
use Rattle.request_machine.specs.declared.stage.Stage.TheVariants.{Call as Calling, Go, Learn, Draw, Choose, NameSpace, NameTerms, Select as Selecting, Ask, NameText, Answer as Answering, Cancel as Cancelling, Lose as Losing, Take as Taking, Reject as Rejecting, NameRenewal, Renew as Renewing, Continue, LoseLink, Read, NextNonce, NameLast, RenewLast, Close, End, Spent, SpentEnd, SpentOver, Over}
use Rattle.request_machine.specs.Kept.{Kept, IsKept, Ties}

kept_beside : (s : Setting) (m : Kept) (link : Option LinkName) (space : Option ProtectionSpace) (stage : Stage) → IsKept s m stage → IsKept s (record m { link = link; space = space }) stage
kept_beside s m link space (Calling call) kept = kept
kept_beside s m link space Go kept = kept
kept_beside s m link space (Learn Proxy piece) kept = kept
kept_beside s m link space (Learn Server piece) kept = kept
kept_beside s m link space (Learn Socks piece) kept = kept
kept_beside s m link space (Draw t nonce) kept = kept
kept_beside s m link space (Choose t) kept = kept
kept_beside s m link space (NameSpace t) kept = kept
kept_beside s m link space (NameTerms t n) kept = kept
kept_beside s m link told (Selecting t space terms) kept = kept
kept_beside s m link space (Ask p ordinal) kept = kept
kept_beside s m link space (NameText p) kept = kept
kept_beside s m link space (Answering p text) kept = kept
kept_beside s m link space (Cancelling p) kept = kept
kept_beside s m link space (Losing p loss) kept = kept
kept_beside s m link space (Taking p) kept = kept
kept_beside s m link space (Rejecting t gift) kept = kept
kept_beside s m link space (NameRenewal t gift) kept = kept
kept_beside s m link space (Renewing t gift terms) kept = kept
kept_beside s m link space (Continue Proxy) kept = (record { token = kept.0.token; is_kept = kept.0.is_kept; wanted = kept.0.wanted }, kept.1)
kept_beside s m link space (Continue Server) kept = (record { token = kept.0.token; is_kept = kept.0.is_kept; wanted = kept.0.wanted }, kept.1)
kept_beside s m link space (Continue Socks) kept = absurd kept.1
kept_beside s m link space (LoseLink on) kept = kept
kept_beside s m link space (Read on) kept = kept
kept_beside s m link space (NextNonce t c) kept = kept
kept_beside s m link space (NameLast t gift c) kept = kept
kept_beside s m link space (RenewLast t gift terms c) kept = kept
kept_beside s m link space (Close c) kept = kept
kept_beside s m link space (End outcome) kept = kept
kept_beside s m link space Spent kept = kept
kept_beside s m link space SpentEnd kept = kept
kept_beside s m link space SpentOver kept = kept
kept_beside s m link space Over kept = kept

-- neither plays a part
beside_ties : (s : Setting) (m : Kept) (link : Option LinkName) (space : Option ProtectionSpace) → Ties s m → Ties s (record m { link = link; space = space })
beside_ties s m link space t = record {
  same_number = t.same_number;
  same_seed = t.same_seed;
  passes_over = t.passes_over;
  route = t.route;
  stage = t.stage;
  proxy = t.proxy;
  server = t.server;
  drawn_proxy = t.drawn_proxy;
  drawn_server = t.drawn_server;
  noted_proxy = t.noted_proxy;
  noted_server = t.noted_server;
  links = t.links;
  heads = t.heads;
  code = t.code;
  rounds = t.rounds;
  is_dialed = t.is_dialed;
  stays = t.stays;
  has_lost = t.has_lost;
  has_none = t.has_none;
  ended = t.ended;
  may_stop = t.may_stop;
  prompt = t.prompt;
  open_still = t.open_still;
  kept = kept_beside s m link space m.stage t.kept;
}

pub linked_ties : (s : Setting) (m : Kept) (link : Option LinkName) → Ties s m → Ties s (record m { link = link })
linked_ties s m link t = beside_ties s m link m.space t

pub spaced_ties : (s : Setting) (m : Kept) (space : Option ProtectionSpace) → Ties s m → Ties s (record m { space = space })
spaced_ties s m space t = beside_ties s m m.link space t
