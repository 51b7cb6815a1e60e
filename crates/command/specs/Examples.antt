-- What words ask for at worked examples.
use Rattle.std.specs.Prelude.{◌≡◌, ℕ, ◌^◌, true, false, List, [], ◌∷◌, map, codes, Some, None}
use Rattle.command.specs.Words.{SpecSyntax, check, explain, live, meaning, run, storm, translate, version}
use Rattle.command.specs.declared.count.Count.TheVariants.{Workers, Cycles, Binders}
use Rattle.command.specs.declared.misuse.Misuse.TheVariants.{Command, Number, Plugin, Scheduler, Unknown, Together}
use Rattle.command.specs.declared.misuse.Part.TheVariants.{Spec, Name, Weight, Fuel}
use Rattle.command.specs.Misuse.{misuse_of}

-- a plugin
abbrev pub plugin : (name : List ℕ) → (weight fuel : ℕ) → (file : List ℕ) → SpecSyntax
plugin name weight fuel file = record { name = name; weight = weight; fuel = fuel; file = file }

-- the plugins whose names are these letters, and the words that spell them
abbrev pub plugins_of : (letters : List ℕ) → List SpecSyntax
plugins_of letters = map (λ letter. plugin (letter ∷ []) 1 1 (codes "f")) letters

abbrev pub words_of : (letters : List ℕ) → List (List ℕ)
words_of letters = map (λ letter. letter ∷ codes ":1:1:f") letters

pub record WorkedExamples : Type 0 where
  -- the number of workers
  pub one_worker : meaning (codes "run" ∷ []) ≡ Some (run 1 [])
  pub most_workers : meaning (codes "run" ∷ codes "--workers=64" ∷ []) ≡ Some (run 64 [])
  pub with_a_plus : meaning (codes "run" ∷ codes "--workers" ∷ codes "+5" ∷ []) ≡ Some (run 5 [])
  pub with_zeros : meaning (codes "run" ∷ codes "--workers" ∷ codes "007" ∷ []) ≡ Some (run 7 [])
  pub no_workers : meaning (codes "run" ∷ codes "--workers" ∷ codes "0" ∷ []) ≡ None
  pub too_many_workers : meaning (codes "run" ∷ codes "--workers" ∷ codes "65" ∷ []) ≡ None
  pub workers_twice : meaning (codes "run" ∷ codes "--workers" ∷ codes "1" ∷ codes "--workers" ∷ codes "1" ∷ []) ≡ None
  pub no_number : meaning (codes "run" ∷ codes "--workers" ∷ []) ≡ None
  pub empty_number : meaning (codes "run" ∷ codes "--workers=" ∷ []) ≡ None
  pub negative_number : meaning (codes "run" ∷ codes "--workers=-1" ∷ []) ≡ None
  -- plugins
  pub one_plugin : meaning (codes "run" ∷ codes "a:1:1:f" ∷ []) ≡ Some (run 1 (plugin (codes "a") 1 1 (codes "f") ∷ []))
  pub no_file : meaning (codes "run" ∷ codes "a:1:1:" ∷ []) ≡ Some (run 1 (plugin (codes "a") 1 1 [] ∷ []))
  pub file_with_a_colon : meaning (codes "run" ∷ codes "a:1:1:x:y" ∷ []) ≡ Some (run 1 (plugin (codes "a") 1 1 (codes "x:y") ∷ []))
  pub behind_the_options : meaning (codes "run" ∷ codes "--" ∷ codes "a:1:1:f" ∷ []) ≡ Some (run 1 (plugin (codes "a") 1 1 (codes "f") ∷ []))
  pub in_order : meaning (codes "run" ∷ codes "b:010:1000000000:f" ∷ codes "--workers" ∷ codes "2" ∷ codes "a:1:1:g" ∷ [])
      ≡ Some (run 2 (plugin (codes "b") 10 (10 ^ 9) (codes "f") ∷ plugin (codes "a") 1 1 (codes "g") ∷ []))
  pub no_weight : meaning (codes "run" ∷ codes "a:0:1:f" ∷ []) ≡ None
  pub too_much_weight : meaning (codes "run" ∷ codes "a:11:1:f" ∷ []) ≡ None
  pub no_fuel : meaning (codes "run" ∷ codes "a:1:0:f" ∷ []) ≡ None
  pub too_much_fuel : meaning (codes "run" ∷ codes "a:1:1000000001:f" ∷ []) ≡ None
  pub weight_with_a_plus : meaning (codes "run" ∷ codes "a:+1:1:f" ∷ []) ≡ None
  pub empty_weight : meaning (codes "run" ∷ codes "a::1:f" ∷ []) ≡ None
  pub empty_fuel : meaning (codes "run" ∷ codes "a:1::f" ∷ []) ≡ None
  pub empty_name : meaning (codes "run" ∷ codes ":1:1:f" ∷ []) ≡ None
  pub no_name : meaning (codes "run" ∷ codes "a b:1:1:f" ∷ []) ≡ None
  pub two_colons : meaning (codes "run" ∷ codes "a:1:1" ∷ []) ≡ None
  pub one_name_twice : meaning (codes "run" ∷ codes "a:1:1:f" ∷ codes "a:2:2:g" ∷ []) ≡ None
  pub most_plugins : meaning (codes "run" ∷ words_of (codes "abcdefghijklmnop")) ≡ Some (run 1 (plugins_of (codes "abcdefghijklmnop")))
  pub too_many_plugins : meaning (codes "run" ∷ words_of (codes "abcdefghijklmnopq")) ≡ None
  -- what explains a run
  pub an_explanation : meaning (codes "explain" ∷ []) ≡ Some (explain 1 [])
  pub explained_by_workers : meaning (codes "explain" ∷ codes "a:1:1:f" ∷ codes "--workers=2" ∷ []) ≡ Some (explain 2 (plugin (codes "a") 1 1 (codes "f") ∷ []))
  pub explained_by_too_many : meaning (codes "explain" ∷ codes "--workers" ∷ codes "65" ∷ []) ≡ None
  pub one_name_twice_in_an_explanation : meaning (codes "explain" ∷ codes "a:1:1:f" ∷ codes "a:2:2:g" ∷ []) ≡ None
  -- a storm
  pub a_storm : meaning (codes "storm" ∷ []) ≡ Some (storm 2 2 false [])
  pub most_threads : meaning (codes "storm" ∷ codes "--cycles" ∷ codes "8" ∷ codes "--binders=8" ∷ []) ≡ Some (storm 8 8 false [])
  pub a_flaky_storm : meaning (codes "storm" ∷ codes "a:1:1:f" ∷ codes "--flaky" ∷ codes "--binders" ∷ codes "+1" ∷ codes "b:2:3:g" ∷ [])
      ≡ Some (storm 2 1 true (plugin (codes "a") 1 1 (codes "f") ∷ plugin (codes "b") 2 3 (codes "g") ∷ []))
  pub no_cycles : meaning (codes "storm" ∷ codes "--cycles=0" ∷ []) ≡ None
  pub too_many_cycles : meaning (codes "storm" ∷ codes "--cycles=9" ∷ []) ≡ None
  pub too_many_binders : meaning (codes "storm" ∷ codes "--binders" ∷ codes "9" ∷ []) ≡ None
  pub cycles_twice : meaning (codes "storm" ∷ codes "--cycles=1" ∷ codes "--cycles=1" ∷ []) ≡ None
  pub flaky_twice : meaning (codes "storm" ∷ codes "--flaky" ∷ codes "--flaky" ∷ []) ≡ None
  pub flaky_with_a_value : meaning (codes "storm" ∷ codes "--flaky=true" ∷ []) ≡ None
  pub workers_of_a_storm : meaning (codes "storm" ∷ codes "--workers" ∷ codes "1" ∷ []) ≡ None
  pub cycles_of_a_run : meaning (codes "run" ∷ codes "--cycles" ∷ codes "1" ∷ []) ≡ None
  pub a_flaky_run : meaning (codes "run" ∷ codes "--flaky" ∷ []) ≡ None
  pub help_on_a_storm : meaning (codes "storm" ∷ codes "--help" ∷ []) ≡ None
  pub one_name_twice_in_a_storm : meaning (codes "storm" ∷ codes "a:1:1:f" ∷ codes "a:2:2:g" ∷ []) ≡ None
  -- a module
  pub a_module : meaning (codes "check" ∷ codes "f" ∷ []) ≡ Some (check (codes "f"))
  pub behind_the_end : meaning (codes "check" ∷ codes "--" ∷ codes "-f" ∷ []) ≡ Some (check (codes "-f"))
  pub before_the_end : meaning (codes "check" ∷ codes "f" ∷ codes "--" ∷ []) ≡ Some (check (codes "f"))
  pub empty_module : meaning (codes "check" ∷ [] ∷ []) ≡ Some (check [])
  pub an_option : meaning (codes "check" ∷ codes "-f" ∷ []) ≡ None
  pub no_module : meaning (codes "check" ∷ []) ≡ None
  pub two_modules : meaning (codes "check" ∷ codes "f" ∷ codes "g" ∷ []) ≡ None
  -- a translation
  pub a_translation : meaning (codes "translate" ∷ []) ≡ Some (translate (codes "default-scheduler") [] false false)
  pub all_of_a_translation : meaning (codes "translate" ∷ codes "--answers" ∷ codes "--scheduler" ∷ codes "a b" ∷ codes "--by-uid" ∷ [])
      ≡ Some (translate (codes "a b") [] true true)
  pub scheduler_at_once : meaning (codes "translate" ∷ codes "--scheduler=-a=b" ∷ codes "--" ∷ []) ≡ Some (translate (codes "-a=b") [] false false)
  pub empty_scheduler : meaning (codes "translate" ∷ codes "--scheduler" ∷ [] ∷ codes "--by-uid" ∷ []) ≡ Some (translate [] [] true false)
  pub a_hyphen_as_a_scheduler : meaning (codes "translate" ∷ codes "--scheduler" ∷ codes "-" ∷ []) ≡ Some (translate (codes "-") [] false false)
  pub no_scheduler : meaning (codes "translate" ∷ codes "--scheduler" ∷ []) ≡ None
  pub an_option_as_a_scheduler : meaning (codes "translate" ∷ codes "--scheduler" ∷ codes "--by-uid" ∷ []) ≡ None
  pub labels_of_a_site : meaning (codes "translate" ∷ codes "--labels" ∷ codes "zone,tier" ∷ [])
      ≡ Some (translate (codes "default-scheduler") (codes "zone,tier") false false)
  pub labels_at_once : meaning (codes "translate" ∷ codes "--labels=-a" ∷ []) ≡ Some (translate (codes "default-scheduler") (codes "-a") false false)
  pub labels_twice : meaning (codes "translate" ∷ codes "--labels=a" ∷ codes "--labels=b" ∷ []) ≡ None
  pub scheduler_twice : meaning (codes "translate" ∷ codes "--scheduler=a" ∷ codes "--scheduler=a" ∷ []) ≡ None
  pub by_uid_twice : meaning (codes "translate" ∷ codes "--by-uid" ∷ codes "--by-uid" ∷ []) ≡ None
  pub answers_with_a_value : meaning (codes "translate" ∷ codes "--answers=true" ∷ []) ≡ None
  pub a_plugin_of_a_translation : meaning (codes "translate" ∷ codes "a:1:1:f" ∷ []) ≡ None
  pub an_option_of_a_translation_behind_the_end : meaning (codes "translate" ∷ codes "--" ∷ codes "--by-uid" ∷ []) ≡ None
  pub help_on_a_translation : meaning (codes "translate" ∷ codes "--help" ∷ []) ≡ None
  pub a_ledger : meaning (codes "live" ∷ []) ≡ Some (live (codes "default-scheduler") [] 1 [])
  pub all_of_a_ledger : meaning (codes "live" ∷ codes "--labels=zone" ∷ codes "--scheduler" ∷ codes "mine" ∷ codes "--workers=2" ∷ codes "a:1:5:f" ∷ [])
      ≡ Some (live (codes "mine") (codes "zone") 2 (record { name = codes "a"; weight = 1; fuel = 5; file = codes "f" } ∷ []))
  pub a_flag_of_a_ledger : meaning (codes "live" ∷ codes "--by-uid" ∷ []) ≡ None
  pub answers_of_a_run : meaning (codes "run" ∷ codes "--answers" ∷ []) ≡ None
  -- which program this is
  pub a_version : meaning (codes "version" ∷ []) ≡ Some version
  pub version_behind_the_end : meaning (codes "version" ∷ codes "--" ∷ []) ≡ Some version
  pub a_version_of_a_word : meaning (codes "version" ∷ codes "a" ∷ []) ≡ None
  pub help_on_a_version : meaning (codes "version" ∷ codes "--help" ∷ []) ≡ None
  -- no command, and requests for help
  pub nothing : meaning [] ≡ None
  pub help : meaning (codes "help" ∷ []) ≡ None
  pub help_option : meaning (codes "--help" ∷ []) ≡ None
  pub help_on_a_run : meaning (codes "run" ∷ codes "--help" ∷ []) ≡ None
  pub version_option : meaning (codes "--version" ∷ []) ≡ None
  pub end_of_options : meaning (codes "--" ∷ codes "run" ∷ []) ≡ None
  pub another_command : meaning (codes "runs" ∷ []) ≡ None
  pub hyphened_behind_the_end : meaning (codes "run" ∷ codes "--" ∷ codes "-a:1:1:f" ∷ []) ≡ Some (run 1 (plugin (codes "-a") 1 1 (codes "f") ∷ []))
  pub hyphened_before_the_end : meaning (codes "run" ∷ codes "-a:1:1:f" ∷ []) ≡ None
  pub an_option_behind_the_end : meaning (codes "storm" ∷ codes "--" ∷ codes "--binders" ∷ codes "8" ∷ []) ≡ None
  -- what is wrong with words
  pub of_nothing : misuse_of [] ≡ Command
  pub of_help : misuse_of (codes "--help" ∷ []) ≡ Command
  pub of_a_check : misuse_of (codes "check" ∷ []) ≡ Together
  pub of_a_version : misuse_of (codes "version" ∷ codes "a" ∷ []) ≡ Together
  pub of_two_names : misuse_of (codes "run" ∷ codes "a:1:1:f" ∷ codes "a:2:2:g" ∷ []) ≡ Together
  pub of_workers : misuse_of (codes "run" ∷ codes "--workers" ∷ codes "65" ∷ []) ≡ Number Workers 3
  pub of_workers_at_once : misuse_of (codes "run" ∷ codes "--workers=0" ∷ []) ≡ Number Workers 2
  pub of_workers_missing : misuse_of (codes "run" ∷ codes "--workers" ∷ []) ≡ Number Workers 2
  pub of_no_plugin : misuse_of (codes "run" ∷ codes "a:1:1" ∷ []) ≡ Plugin Spec 2
  pub of_another_option : misuse_of (codes "run" ∷ codes "--help" ∷ []) ≡ Plugin Spec 2
  pub of_a_name : misuse_of (codes "run" ∷ codes "--workers" ∷ codes "2" ∷ codes "a b:0:0:f" ∷ []) ≡ Plugin Name 4
  pub of_a_weight : misuse_of (codes "run" ∷ codes "b:1:1:f" ∷ codes "a:11:0:f" ∷ []) ≡ Plugin Weight 3
  pub of_fuel : misuse_of (codes "run" ∷ codes "a:1:+1:f" ∷ []) ≡ Plugin Fuel 2
  pub of_cycles : misuse_of (codes "storm" ∷ codes "a:1:1:f" ∷ codes "--cycles" ∷ codes "9" ∷ []) ≡ Number Cycles 4
  pub of_binders : misuse_of (codes "storm" ∷ codes "--flaky" ∷ codes "--binders=0" ∷ []) ≡ Number Binders 3
  pub of_binders_missing : misuse_of (codes "storm" ∷ codes "--binders" ∷ []) ≡ Number Binders 2
  pub of_flaky_twice : misuse_of (codes "storm" ∷ codes "--flaky" ∷ codes "--flaky" ∷ []) ≡ Together
  pub of_workers_of_a_storm : misuse_of (codes "storm" ∷ codes "--workers=2" ∷ []) ≡ Plugin Spec 2
  pub of_cycles_of_a_run : misuse_of (codes "run" ∷ codes "--cycles=2" ∷ []) ≡ Plugin Spec 2
  pub of_an_explanation : misuse_of (codes "explain" ∷ codes "--workers" ∷ codes "65" ∷ []) ≡ Number Workers 3
  pub of_a_hyphen : misuse_of (codes "run" ∷ codes "-p:1:1:f" ∷ codes "p:0:1:f" ∷ []) ≡ Plugin Spec 2
  pub of_a_hyphen_and_an_equals_sign : misuse_of (codes "run" ∷ codes "--a:1:1:f=" ∷ []) ≡ Plugin Spec 2
  pub of_an_option_behind_the_end : misuse_of (codes "storm" ∷ codes "--" ∷ codes "--binders" ∷ codes "8" ∷ []) ≡ Plugin Spec 3
  pub of_a_second_end : misuse_of (codes "run" ∷ codes "--" ∷ codes "-a:1:1:f" ∷ codes "--" ∷ []) ≡ Plugin Spec 4
  pub of_a_weight_behind_the_end : misuse_of (codes "run" ∷ codes "--" ∷ codes "-a:0:1:f" ∷ []) ≡ Plugin Weight 3
  pub of_the_end_as_a_number : misuse_of (codes "run" ∷ codes "--workers" ∷ codes "--" ∷ []) ≡ Number Workers 3
  pub of_one_name_twice_behind_the_end : misuse_of (codes "run" ∷ codes "--" ∷ codes "a:1:1:f" ∷ codes "a:2:2:g" ∷ []) ≡ Together
  pub of_a_scheduler : misuse_of (codes "translate" ∷ codes "--by-uid" ∷ codes "--scheduler" ∷ []) ≡ Scheduler 3
  pub of_an_option_as_a_scheduler : misuse_of (codes "translate" ∷ codes "--scheduler" ∷ codes "--by-uid" ∷ []) ≡ Scheduler 3
  pub of_labels : misuse_of (codes "translate" ∷ codes "--labels=a" ∷ codes "--labels" ∷ []) ≡ Scheduler 3
  pub of_labels_twice : misuse_of (codes "translate" ∷ codes "--labels=a" ∷ codes "--labels" ∷ codes "b" ∷ []) ≡ Together
  pub of_a_scheduler_twice : misuse_of (codes "translate" ∷ codes "--scheduler=a" ∷ codes "--scheduler" ∷ codes "a" ∷ []) ≡ Together
  pub of_answers_with_a_value : misuse_of (codes "translate" ∷ codes "--scheduler" ∷ codes "-" ∷ codes "--answers=true" ∷ []) ≡ Unknown 4
  pub of_a_plugin_of_a_translation : misuse_of (codes "translate" ∷ codes "a:1:1:f" ∷ []) ≡ Unknown 2
  pub of_a_flag_of_a_ledger : misuse_of (codes "live" ∷ codes "--labels" ∷ codes "a" ∷ codes "--by-uid" ∷ []) ≡ Plugin Spec 4
  pub of_a_scheduler_of_a_ledger : misuse_of (codes "live" ∷ codes "--scheduler" ∷ []) ≡ Scheduler 2
  pub of_an_option_of_a_translation_behind_the_end : misuse_of (codes "translate" ∷ codes "--" ∷ codes "--by-uid" ∷ []) ≡ Unknown 3
