-- The live space of the site is looked for in the record of the request's partition.
use Rattle.std.proofs.Common.{◌≡◌, ◌∙◌, Option, Some, ap, sym, arith}
use Rattle.std.proofs.lemmas.Grind.{common_steps}
use Rattle.std.specs.Prelude.{find, option_map, option_and_then, unwrap_or}
use Rattle.spaces.specs.declared.roster.Request.{Request}
use Rattle.spaces.specs.declared.site.Site.{Site}
use Rattle.spaces.specs.Sites.{numbered, site}
use Rattle.auth_events.specs.Book.{is_of_site, path_of}
use Rattle.auth_cache.specs.declared.cache.Held.{Held}
use Rattle.path_lookup.specs.Notes.{deepest}
use Rattle.auth_book.specs.declared.partitions.PartRow.{PartRow}
use Rattle.auth_book.specs.Parts.{entries_at, notes_at, part_of}
use Rattle.auth_book.specs.Replies.{deepest_at, live_at, site_at, site_in}
use Rattle.auth_book.proofs.index.BookIndex.deepest.Goals as goal

pub returns : goal.returns
returns c =
    let index = c.args.self.now in
    let roster = c.args.roster.now in
    let names = c.args.names.now in
    let path = path_of roster c.args.request c.args.target in
    let asked = c.in-Some.asked.now in
    let part = c.in-Some-of.part.now in
    let place : Site = record { partition = asked.partition; target = c.args.target; origin = c.in-Some-origin_of.origin.now } in
    let there : part_of index.partitions asked.partition ≡ Some part = grind (arith, common_steps) in
    let named : numbered roster.requests c.args.request ≡ Some asked = grind (arith, common_steps) in
    let of_it : site asked c.args.target ≡ Some place = grind (arith, common_steps) in
    let its : option_and_then (λ (request : Request). site request c.args.target) (numbered roster.requests c.args.request) ≡ Some place =
    ap (option_and_then (λ (request : Request). site request c.args.target)) named ∙ of_it in
    let live : c.live_at-live.result ≡ live_at index names place =
    c.live_at-live.ensures
    ∙ ap (find (λ (held : Held). is_of_site names place held.gift.space)) (c.entries.ensures ∙ sym (ap entries_at there)) in
    let number : c.site_of-site.result ≡ site_at index names place =
    c.site_of-site.ensures ∙ ap (λ (o : Option Held). unwrap_or (option_map (λ (held : Held). site_in index held.gift.space) o) 0) live in
    c.deepest.ensures
    ∙ (ap (λ n. deepest roster n c.path_of.result.now part.paths.notes) number
    ∙ (ap (λ p. deepest roster (site_at index names place) p part.paths.notes) c.path_of.ensures
    ∙ (ap (λ (o : Option PartRow). deepest roster (site_at index names place) path (notes_at o)) (sym there)
    ∙ sym (ap (λ (o : Option Site). unwrap_or (option_map (deepest_at index roster names path) o) 0) its))))
