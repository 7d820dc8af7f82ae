use Rattle.std.proofs.Common.{◌∙◌}
use Rattle.auth_cli.proofs.Lone.{lone_run_of}
use Rattle.auth_cli.proofs.serve.run_for.Goals as goal

pub returns : goal.returns
returns c =
    lone_run_of c.args.session c.args.seed _ _ c.in_ok-traces.traces _ c.requires c.new-dialer.ensures.streams c.in_ok-prompter.ensures.answers c.in_ok-traces.ensures.served
    c.into_parts-roster.result.0 c.into_parts-roster.result.1 c.into_parts-roster.result.2.entries c.new-4.result c.new-4.ensures
    (c.into_parts-roster.ensures.roster ∙ (c.serve_all.ensures.roster ∙ c.in_ok-book.ensures.roster)) c.into_parts-roster.ensures.names c.into_parts-roster.ensures.entries
