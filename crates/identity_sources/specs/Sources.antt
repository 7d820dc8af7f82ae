-- Where an identity may come from, in one fixed order (after Chromium net/http).
use Rattle.std.specs.Prelude.{Bool, true, not, ◌==◌, List, [], ◌∷◌}
use Rattle.identity_sources.specs.declared.Facts.{Facts}
use Rattle.identity_sources.specs.declared.Choice.{Choice}
use Rattle.identity_sources.specs.declared.Choice.TheVariants.{Url, Cached, Default, Follow, Lead}

-- the sources, each before those that are asked only where it has nothing
abbrev pub sources : List Choice
sources = Url ∷ Cached ∷ Default ∷ Follow ∷ Lead ∷ []

-- the source has an identity for the request, or will have one
abbrev pub holds : Facts → Choice → Bool
holds facts Url = facts.url
holds facts Cached = not (facts.cached == 0)
holds facts Default = facts.ambient
holds facts Follow = not (facts.prompt == 0)
holds facts Lead = true
