use Rattle.std.proofs.Common.{ℕ, ◌+◌, ap, ◌∙◌, Bool, List, option_and_then}
use Rattle.spaces.specs.declared.site.Target.TheVariants.{Server, Proxy}
use Rattle.spaces.specs.declared.roster.Request.{Request}
use Rattle.spaces.specs.RequestTargets.{request_target}
use Rattle.wire_head.specs.RequestHeads.{head}
use Rattle.request_machine.specs.declared.fields.Maker.{Maker}
use Rattle.request_machine.specs.Heads.{field_told}
use Rattle.request_machine.specs.Making.{field_made}
use Rattle.request_machine.specs.Kept.{Kept}
use Rattle.request_machine.proofs.machine.Machine.next_head.Goals as goal

-- the next head, by whether the link is kept behind it
abbrev head_by : Kept → Request → Bool → List ℕ
head_by m request keep =
    head request.method (request_target request.place m.is_proxied) request.place.origin
    (option_and_then (field_told m request Proxy m.drawn_proxy) m.proxy) (option_and_then (field_told m request Server m.drawn_server) m.server) keep

pub returns : goal.returns
returns c =
    let maker : Maker = record { number = c.self.inside.number; seed = c.self.inside.seed; is_proxied = c.self.inside.is_proxied; head = c.self.inside.heads + 1 } in
    c.in_ok-text.ensures
    ∙ ap (λ f. head c.args.request.now.method (request_target c.args.request.now.place c.self.inside.is_proxied) c.args.request.now.place.origin f c.in_ok-server.server c.keeps-keep.result) c.in_ok-proxy.ensures
    ∙ ap (λ f. head c.args.request.now.method (request_target c.args.request.now.place c.self.inside.is_proxied) c.args.request.now.place.origin
    (option_and_then (field_made maker c.args.request.now Proxy c.self.inside.drawn_proxy) c.self.inside.proxy) f c.keeps-keep.result) c.in_ok-server.ensures
    ∙ ap (λ (v : Kept). head_by v c.args.request.now c.keeps-keep.result) c.self.view_is
    ∙ ap (head_by c.args.self.now c.args.request.now) c.keeps-keep.ensures
