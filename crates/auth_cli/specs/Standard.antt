-- What a read of std's readers gives and a write to std's writers takes, where their bytes are known.
use Rattle.std.specs.Prelude.{ℕ, List, [], take}
use Rattle.std.specs.declared.option.Option.{Option}
use Rattle.std.specs.Io.KnownBytes.{Keeps, Appends, Consumes, IsAtEnd}
use Rattle.link_trait.specs.declared.streams.Got.{Got}
use Rattle.link_trait.specs.declared.streams.Got.TheVariants.{Bytes, End, Failed, NoMemory}
use Rattle.link_trait.specs.declared.streams.Took.{Took}
use Rattle.link_trait.specs.declared.streams.Took.TheVariants.{Bytes as TookBytes, Failed as TookFailed, NoMemory as TookNoMemory}

-- the bytes that were given stood in front; the end is answered only where nothing is left
abbrev pub Gave : Option (List ℕ) → Option (List ℕ) → Got → List ℕ → Type 0
Gave old new (Bytes n) buf = Consumes old new (take n buf)
Gave old new End buf = Consumes old new [] × IsAtEnd new
Gave old new Failed buf = Keeps old new
Gave old new NoMemory buf = Keeps old new

-- the bytes that were taken stand behind the others; a failure takes none
abbrev pub Taken : Option (List ℕ) → Option (List ℕ) → Took → List ℕ → Type 0
Taken old new (TookBytes n) bytes = Appends old new (take n bytes)
Taken old new TookFailed bytes = Appends old new []
Taken old new TookNoMemory bytes = Appends old new []
