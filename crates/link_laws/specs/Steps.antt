-- What a reading of a link adds to a request's past.
use Rattle.std.specs.Prelude.{ℕ, List, ◌∷◌}
use Rattle.connection_binding.specs.declared.ends.ReadEnd.{ReadEnd}
use Rattle.connection_binding.specs.declared.ends.ReadEnd.TheVariants.{Whole, Broken, Lost, Failed, NoMemory}
use Rattle.auth_runs.specs.declared.event.Event.{Event}
use Rattle.auth_runs.specs.declared.event.Event.TheVariants.{Replied, Broken as BrokenReply, LinkLost, ReadFailed}

-- behind a past the event that a reading's end is; want of memory is none
abbrev pub past_read : ℕ → ReadEnd → List Event → List Event
past_read link (Whole reply) past = Replied link reply ∷ past
past_read link (Broken fault) past = BrokenReply link fault ∷ past
past_read link Lost past = LinkLost link ∷ past
past_read link (Failed count) past = ReadFailed link count ∷ past
past_read link NoMemory past = past
