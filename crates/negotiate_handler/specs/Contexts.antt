-- What a step of a context comes to, by the answer of the provider of tokens.
use Rattle.std.specs.Prelude.{ℕ, ◌≡◌, Bool, true, false, List}
use Rattle.std.specs.declared.option.Option.{Option}
use Rattle.link_trait.specs.declared.steps.Step.{Step}
use Rattle.link_trait.specs.declared.steps.Step.TheVariants.{Token, Done, Refused, NoMechanism, Failed, NoMemory}
use Rattle.link_trait.specs.declared.tokens.TokenCall.{TokenCall}
use Rattle.link_trait.specs.Told.{grown}
use Rattle.link_trait.specs.Tokens.{taking, IsStepBy}
use Rattle.negotiate_handler.specs.declared.context.Said.{Said}
use Rattle.negotiate_handler.specs.declared.context.Said.TheVariants.{Refused as SaidRefused, Done as SaidDone, NoMechanism as SaidNoMechanism}
use Rattle.negotiate_handler.specs.declared.context.Stepped.{Stepped}
use Rattle.negotiate_handler.specs.declared.context.Stepped.TheVariants.{Ready, Refused as IsRefused, NoMechanism as IsWithout, Failed as HasFailed, NoMemory as LacksMemory}

-- the provider was called once, and answered with that step
pub record HasAnswered (told_old told_new : Option (List TokenCall)) (calls : List TokenCall)
    (script : Option (List (List Step))) (taken_old taken_new : Option (List ℕ)) (request : ℕ) (step : Step) : Type 0 where
  -- where it is told, an answer is told with its arguments
  pub told : told_new ≡ grown told_old calls
  -- where a script is known, the step is the request's next one
  pub scripted : IsStepBy script taken_old request step
  pub taken : taken_new ≡ grown taken_old (taking step request)

-- the beginning of a context: refused where the provider refuses, and where it stands without a token
abbrev pub begun : Step → ℕ → Stepped
begun (Token token) count = Ready token
begun Done count = IsRefused SaidDone
begun Refused count = IsRefused SaidRefused
begun NoMechanism count = IsWithout
begun Failed count = HasFailed count
begun NoMemory count = LacksMemory

-- a step onward: refused also where the provider has no mechanism any more
abbrev pub gone_on : Step → ℕ → Stepped
gone_on (Token token) count = Ready token
gone_on Done count = IsRefused SaidDone
gone_on Refused count = IsRefused SaidRefused
gone_on NoMechanism count = IsRefused SaidNoMechanism
gone_on Failed count = HasFailed count
gone_on NoMemory count = LacksMemory

abbrev pub is_failed : Stepped → Bool
is_failed (HasFailed count) = true
is_failed stepped = false
