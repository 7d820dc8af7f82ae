-- A site that is known keeps its number, and another gets the next one.
use Rattle.std.proofs.Common.{◌≡◌, ◌∙◌, ◌+◌, Some, ap, sym, subst, arith}
use Rattle.std.proofs.lemmas.Grind.{common_steps}
use Rattle.std.specs.BTreeMap.{get}
use Rattle.space_keys.specs.Keys.{IsKeyOfSite, site_cmp}
use Rattle.name_index.proofs.Sites.{first_known, first_next, site_kept, site_more, site_noted, site_read}
use Rattle.name_index.proofs.noting.note_site.Goals as goal

pub returns-in-Some-clause-next : goal.returns-in-Some-clause-next
returns-in-Some-clause-next c =
    let old = c.args.sites.now in
    let spaces = c.args.names.now.spaces in
    let space = c.args.space.now in
    let key = c.in_ok-key.key in
    let read : c.copied-number.result ≡ get site_cmp old key = grind (arith, common_steps) in
    let found = site_read old spaces key space c.site.result.now c.site-2.result.now c.site.ensures c.site-2.ensures c.requires c.in_ok-key.ensures c.copied-number.result c.site_checked.result read c.site_checked.ensures in
    site_kept old spaces key space c.requires (subst (IsKeyOfSite key) c.site.ensures c.in_ok-key.ensures) c.in-Some.number (sym found ∙ c.in-Some.is)

pub returns-in-Some-clause-first : goal.returns-in-Some-clause-first
returns-in-Some-clause-first c =
    let old = c.args.sites.now in
    let spaces = c.args.names.now.spaces in
    let space = c.args.space.now in
    let key = c.in_ok-key.key in
    let read : c.copied-number.result ≡ get site_cmp old key = grind (arith, common_steps) in
    let found = site_read old spaces key space c.site.result.now c.site-2.result.now c.site.ensures c.site-2.ensures c.requires c.in_ok-key.ensures c.copied-number.result c.site_checked.result read c.site_checked.ensures in
    first_known spaces space c.in-Some.number (sym found ∙ c.in-Some.is)

pub returns-in_ok-insert-in-None-clause-knows : goal.returns-in_ok-insert-in-None-clause-knows
returns-in_ok-insert-in-None-clause-knows c =
    let old = c.args.sites.now in
    let spaces = c.args.names.now.spaces in
    let space = c.args.space.now in
    let key = c.in_ok-key.key in
    let read : c.copied-number.result ≡ get site_cmp old key = grind (arith, common_steps) in
    let found = site_read old spaces key space c.site.result.now c.site-2.result.now c.site.ensures c.site-2.ensures c.requires c.in_ok-key.ensures c.copied-number.result c.site_checked.result read c.site_checked.ensures in
    site_noted old spaces key space c.requires (subst (IsKeyOfSite key) c.site.ensures c.in_ok-key.ensures) c.insert.new.self (c.spaces_len-next.result + 1) (sym found ∙ c.in-None.is) c.in_ok-insert-in-None.ensures.updates

pub returns-in_ok-insert-in-None-clause-next : goal.returns-in_ok-insert-in-None-clause-next
returns-in_ok-insert-in-None-clause-next c =
    let old = c.args.sites.now in
    let spaces = c.args.names.now.spaces in
    let space = c.args.space.now in
    let key = c.in_ok-key.key in
    let read : c.copied-number.result ≡ get site_cmp old key = grind (arith, common_steps) in
    let found = site_read old spaces key space c.site.result.now c.site-2.result.now c.site.ensures c.site-2.ensures c.requires c.in_ok-key.ensures c.copied-number.result c.site_checked.result read c.site_checked.ensures in
    site_more old spaces key space c.requires (subst (IsKeyOfSite key) c.site.ensures c.in_ok-key.ensures) c.insert.new.self (c.spaces_len-next.result + 1) (sym found ∙ c.in-None.is) c.in_ok-insert-in-None.ensures.updates
    (ap (λ n. n + 1) c.spaces_len-next.ensures.len)

pub returns-in_ok-insert-in-None-clause-first : goal.returns-in_ok-insert-in-None-clause-first
returns-in_ok-insert-in-None-clause-first c =
    let old = c.args.sites.now in
    let spaces = c.args.names.now.spaces in
    let space = c.args.space.now in
    let key = c.in_ok-key.key in
    let read : c.copied-number.result ≡ get site_cmp old key = grind (arith, common_steps) in
    let found = site_read old spaces key space c.site.result.now c.site-2.result.now c.site.ensures c.site-2.ensures c.requires c.in_ok-key.ensures c.copied-number.result c.site_checked.result read c.site_checked.ensures in
    first_next spaces space (sym found ∙ c.in-None.is) ∙ ap (λ n. Some (n + 1)) (sym c.spaces_len-next.ensures.len)
