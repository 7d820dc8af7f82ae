-- What was read of links, as the fronts of what their peers send.
use Rattle.std.proofs.Common.{◌∙◌, ℕ, List, ◌++◌, length, drop, refl, sym, ap}
use Rattle.std.proofs.Math.Seq.{drop-length}
use Rattle.std.proofs.lemmas.List.{take-append-drop}
use Rattle.link_trait.specs.declared.links.LinkName.{LinkName}
use Rattle.link_trait.specs.Links.{Stream}
use Rattle.trace_rule.specs.Heard.{ended}
use Rattle.link_laws.specs.Rests.{AreMoreBy, AreFrontsOf}

-- a whole stream is its front and more
pub fronts_more : (streams : LinkName → List ℕ) (read : LinkName → Stream) → AreFrontsOf streams read
    → AreMoreBy (λ link. drop (length (read link).bytes) (streams link)) read (λ link. ended (streams link))
fronts_more streams read fronts link = record {
  bytes = sym (take-append-drop (length (read link).bytes) (streams link)) ∙ ap (λ (front : List ℕ). front ++ drop (length (read link).bytes) (streams link)) (fronts link).front;
  at_end = λ over. (ap (drop (length (read link).bytes)) ((fronts link).whole over) ∙ drop-length (read link).bytes, refl);
}
