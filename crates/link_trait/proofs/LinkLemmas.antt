-- Names of links in lists of them.
use Rattle.std.proofs.Common.{◌≡◌, true, List, [], ◌∷◌, ◌++◌, arith}
use Rattle.std.proofs.lemmas.Grind.{common_steps}
use Rattle.std.proofs.lemmas.List.Folds.{list_any-append}
use Rattle.link_trait.specs.declared.links.LinkName.{LinkName}
use Rattle.link_trait.specs.Links.{same_link, has_link}

pub same_name : (a b : LinkName) → same_link a b ≡ true → a ≡ b
same_name a b same = grind (arith, common_steps)

pub same_self : (a : LinkName) → same_link a a ≡ true
same_self a = grind (arith, common_steps)

-- a link that was dialed last is open
pub dialed_is_open : (name : LinkName) (names : List LinkName) → has_link name (names ++ name ∷ []) ≡ true
dialed_is_open name names = rw (list_any-append, same_self name) grind arith
