use Rattle.std.proofs.Common.{◌≡◌}
use Rattle.auth_cache.specs.Cached.{held_in}
use Rattle.auth_cache.proofs.Lists.{taken_fewer}
use Rattle.auth_cache.proofs.cache.take_space.Goals as goal

pub returns-clause-taken : goal.returns-clause-taken
returns-clause-taken c =
    let found : c.find_space-found.result ≡ held_in c.args.entries.now.items c.args.space = cc in
    taken_fewer c.args.space c.args.entries.now.items _ _ c.drop_space.ensures.items found
