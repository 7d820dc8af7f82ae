use Rattle.prompt_queue.proofs.RoomOfPrompts.{room_for_prompt}
use Rattle.prompt_queue.proofs.laws.has_room_with_the_journal.Goals as goal

pub returns : goal.returns
returns c = room_for_prompt
