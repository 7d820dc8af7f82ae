-- What a reply brings to a context (RFC 4559, section 4.1).
use Rattle.std.specs.Prelude.{ℕ, List, Option, codes, bytes_eq, find, option_map}
use Rattle.challenge_tokens.specs.declared.challenge.Challenge.{Challenge}
use Rattle.negotiate_handler.specs.Tokens.{token_in}
use Rattle.wire_head.specs.declared.reply.Reply.{Reply}
use Rattle.trace_rule.specs.Challenges.{challenges}

-- the token of the first `negotiate` challenge, or that it has none
abbrev pub token_among : List Challenge → Option (Option (List ℕ))
token_among offered =
    option_map (λ challenge. token_in challenge.body) (find (λ challenge. bytes_eq challenge.scheme (codes "negotiate")) offered)

-- the same of a reply
abbrev pub token_offered : Reply → Option (Option (List ℕ))
token_offered reply = token_among (challenges reply)
