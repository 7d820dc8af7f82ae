use Rattle.std.proofs.Common.{refl}
use Rattle.sha2.specs.Sha256.{first_words, schedule, rounds, compress, hash_after, digest_bytes, sha256}
use Rattle.hex.specs.Hex.{encode_with}
use Rattle.digest_handler.specs.Credentials.{first_fields}
use Rattle.digest_handler.proofs.examples.sha_256_with_userhash.Goals as goal

pub returns : goal.returns
unfolding first_words schedule rounds compress hash_after digest_bytes sha256 encode_with first_fields
returns c = refl
