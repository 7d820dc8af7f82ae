use Rattle.std.proofs.Common.{◌∙◌, ◌*◌, ℕ, List, [], length, replicate, false, ap, sym, subst, arith}
use Rattle.std.proofs.lemmas.List.{length-replicate}
use Rattle.spaces.specs.Sites.{numbered}
use Rattle.auth_events.specs.Tables.{no_names}
use Rattle.auth_events.specs.Book.{is_of_partition}
use Rattle.auth_cache.specs.Histories.{HasLive}
use Rattle.path_lookup.specs.Histories.{HasDirs}
use Rattle.prompt_queue.specs.Prompts.{Queue}
use Rattle.auth_book.specs.declared.partitions.PartRow.{PartRow}
use Rattle.auth_book.specs.Parts.{entries_at, notes_at, part_of}
use Rattle.auth_book.specs.declared.index.SpaceRow.{SpaceRow}
use Rattle.auth_book.specs.declared.index.RequestRow.{RequestRow}
use Rattle.auth_book.specs.Rooms.{Roomy}
use Rattle.auth_book.specs.SiteNumbers.{site_no}
use Rattle.auth_book.proofs.Openings.{replicated, filled, no_items, no_live, no_dirs, none_named}
use Rattle.auth_book.proofs.index.BookIndex.new.Goals as goal

pub returns-clause-stands : goal.returns-clause-stands
returns-clause-stands c =
    let fresh : RequestRow = record { url = false; default_server = false; default_proxy = false; default_socks = false } in
    record {
      caches = λ p. subst (λ (parts : List PartRow). HasLive (is_of_partition no_names p) [] (entries_at (part_of parts p))) (sym c.new.ensures) (no_live p);
      paths = λ p. subst (λ (parts : List PartRow). HasDirs c.args.roster.now no_names (site_no no_names) (is_of_partition no_names p) [] (notes_at (part_of parts p))) (sym c.new.ensures) (no_dirs c.args.roster.now p);
      records = λ space s there. absurd (none_named space s there);
      prompts = ap (λ (v : Queue). v.prompts) c.in_ok-new.ensures;
      prompt_room = ap (λ (v : Queue). v.requests) c.in_ok-new.ensures ∙ c.len-requests.ensures;
      spaces = λ s. ap (λ (v : Roomy SpaceRow). numbered v.items s) c.in_ok-with_room.ensures ∙ no_items _ s;
      requests = λ r. ap (λ (v : Roomy RequestRow). numbered v.items r) c.in_ok-filled.ensures ∙ (ap (λ n. numbered (replicate n fresh) r) c.len-requests.ensures ∙ replicated c.args.roster.now.requests fresh r);
      led = ap (λ (v : Roomy ℕ). v.items) c.in_ok-with_room-2.ensures;
      led_room = omega (arith, ap (λ (v : Roomy ℕ). v.room) c.in_ok-with_room-2.ensures, c.len-requests.ensures);
      epoch_count = ap (λ (v : Roomy ℕ). length v.items) c.in_ok-filled-2.ensures ∙ (length-replicate (16 * c.len-requests.result) 0 ∙ ap (λ n. 16 * n) c.len-requests.ensures);
      epochs = λ n first last. ap (λ (v : Roomy ℕ). numbered v.items n) c.in_ok-filled-2.ensures ∙ filled (16 * c.len-requests.result) 0 n first (omega (arith, last, c.len-requests.ensures));
    }
