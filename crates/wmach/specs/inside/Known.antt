-- What is known of every checked module.
use Rattle.wmodule.specs.Placed.{Stands}
use Rattle.wmodule.specs.Syntax.{module_of}
use Rattle.wtype.specs.Accepted.{Accepted}
use Rattle.wtype.specs.CheckedModule.{CheckedModule, NotesAgree}

-- what is so of every module that was checked
pub record IsChecked (checked : CheckedModule) : Type 0 where
  pub accepted : Accepted (module_of checked.content)
  pub agree : NotesAgree checked.content checked.notes
  pub placed : Stands checked.content.bytes checked.content.tables
