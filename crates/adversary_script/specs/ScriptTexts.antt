-- Promise: which changes have a text.
use Rattle.std.specs.Prelude.{◌≡◌, ℕ, ⊤, List, [], ◌∷◌, Ok, Some, ◌↔◌}
use Rattle.adversary_script.specs.declared.change.Change.{Change}
use Rattle.adversary_script.specs.ScriptRules.{KeepsScriptRules}
use Rattle.adversary_script.specs.ScriptGrammar.{line_says, script_of}

-- some line says this change
pub record HasLine (change : Change) : Type 0 where
  pub line : List ℕ
  pub says : line_says line ≡ Ok (Some change)

-- for each of the changes some line says it
abbrev pub AllHaveLines : List Change → Type 0
AllHaveLines [] = ⊤
AllHaveLines (change ∷ changes) = HasLine change × AllHaveLines changes

-- some text reads to these changes
pub record HasScriptText (changes : List Change) : Type 0 where
  pub text : List ℕ
  pub reads : script_of text ≡ Ok changes

-- a text reads to changes exactly where these keep the rules and each has a line
pub record TextsKeepRules : Type 0 where
  pub same : (changes : List Change) → HasScriptText changes ↔ (KeepsScriptRules changes × AllHaveLines changes)
