-- The offers of the code as those of the rule for traces.
use Rattle.std.specs.Prelude.{[], false, None, Some}
use Rattle.spaces.specs.declared.space.Scheme.TheVariants.{Digest as DigestScheme, Negotiate as NegotiateScheme}
use Rattle.trace_rule.specs.Challenges.{Offer as RuleOffer, basic_offer}
use Rattle.challenge_offers.specs.declared.offer.Offer.{Offer}
use Rattle.challenge_offers.specs.declared.offer.Offer.TheVariants.{Basic, Digest, Negotiate}

abbrev pub offered : Offer → RuleOffer
offered (Basic realm) = basic_offer realm
offered (Digest terms stale) = record { scheme = DigestScheme; realm = terms.realm; terms = Some terms; stale = stale }
offered Negotiate = record { scheme = NegotiateScheme; realm = []; terms = None; stale = false }
