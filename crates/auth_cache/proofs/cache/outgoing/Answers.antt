use Rattle.std.proofs.Common.{◌∙◌, sym, rules}
use Rattle.auth_cache.proofs.Lists.{nobody_goes, first_goes}
use Rattle.auth_cache.proofs.cache.outgoing.Goals as goal

pub returns-then-has_room : goal.returns-then-has_room
returns-then-has_room c =
    sym (nobody_goes c.args.bound c.args.space c.args.entries.now c.requires (sym c.has_room.ensures ∙ c.if-has_room.true))

pub returns : goal.returns
returns c =
    rw (first_goes c.args.bound c.args.space c.args.entries.now (sym c.has_room.ensures ∙ c.if-has_room.false)) (search rules)
