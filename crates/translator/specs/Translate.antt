-- What a translation writes of the objects that it reads, one a line.
use Rattle.std.specs.Prelude.{◌≡◌, ◌≢◌, ◌⊎◌, ◌<◌, ℕ, ◌+◌, nat_le, Bool, true, false, ◌&&◌, not, List, [], ◌∷◌, ◌++◌, length, codes, decimal, Option, Some, None, IfSome, if◌then◌else◌}
use Rattle.std.specs.Io.KnownBytes.{Appends}
use Rattle.quant.specs.declared.event.Event.{Event}
use Rattle.quant.specs.declared.limits.TheConstants.{MAX_VERSION}
use Rattle.command.specs.declared.asked.TranslatePlan.{TranslatePlan}
use Rattle.objects.specs.declared.translation.Translation.{Translation}
use Rattle.objects.specs.ObjectName.{name_in}
use Rattle.objects.specs.Site.{Site}
use Rattle.objects.specs.Told.{Told, told}
use Rattle.objects.specs.Translation.{IsTranslation}
use Rattle.streams.specs.Device.{DeviceUse}
use Rattle.streams.specs.Lines.{lines_of}
use Rattle.streams.specs.declared.fault.RunFault.TheVariants as run_fault
use Rattle.fault_line.specs.declared.fault.Fault.{Fault}
use Rattle.fault_line.specs.declared.fault.Fault.TheVariants.{Run, Uncounted}
use Rattle.fault_line.specs.declared.unread.LineUncounted.{LineUncounted}
use Rattle.fault_line.specs.Excerpt.{excerpt_of}
use Rattle.fault_line.specs.Message.{Tells, message_of}

-- how objects are told: of which site, whether pods are called by their uid, and whether each
-- answer is an object that also says what is left out
pub record Manner : Type 0 where
  pub site : Site
  pub by_uid : Bool
  pub answers : Bool

-- the manner that a plan asks for
abbrev pub manner_of : TranslatePlan → Manner
manner_of plan = record {
  site = record { scheduler = plan.scheduler.now; labels = plan.labels.now; beside = None };
  by_uid = plan.by_uid;
  answers = plan.answers;
}

-- ---- what lines give

-- what a line gives under the next version. There is no going on where it may be a pod on a node
-- that can't be counted, unless the answer says so, and none behind the last version.
abbrev pub unless_uncounted : (answers : Bool) → Told → Option Told
unless_uncounted answers told = if told.uncounted && not answers then None else Some told

unfoldable pub told_under : Manner → (version : ℕ) → (line : List ℕ) → Option Told
told_under manner version line =
    if nat_le version MAX_VERSION
    then unless_uncounted manner.answers (told manner.site manner.by_uid (record { 0 = version }) line)
    else None

-- the next version behind a line that gives this event or none
abbrev pub next_version : (version : ℕ) → Option Event → ℕ
next_version version None = version
next_version version (Some event) = version + 1

-- each line has its translation, the first under this version, and behind them the next version is
-- that
abbrev pub AreTranslated : Manner → (version : ℕ) → (lines : List (List ℕ)) → List Translation → (next : ℕ) → Type 0
AreTranslated manner version [] [] next = next ≡ version
AreTranslated manner version (line ∷ lines) (translation ∷ translations) next =
    (told : Told) × (told_under manner version line ≡ Some told) × IsTranslation told translation
    × AreTranslated manner (next_version version told.event) lines translations next
AreTranslated manner version _ _ next = ⊥

-- ---- what is written of them

-- the script's line, in an object
abbrev pub line_or_null : (line : List ℕ) → List ℕ
line_or_null [] = codes "null"
line_or_null (x ∷ more) = x ∷ more

-- the answer to a line: the script's line, or an object with it and with what is left out. Of a
-- line that may be a pod on a node that can't be counted the object has no line, and says why
abbrev pub answer_object : (uncounted : Bool) → (line left_out : List ℕ) → List ℕ
answer_object false line left_out = codes "{\"line\": " ++ line_or_null line ++ codes ", \"left_out\": [" ++ left_out ++ codes "]}\n"
answer_object true line left_out = codes "{\"uncounted\": [" ++ left_out ++ codes "]}\n"

unfoldable pub answer_text : (answers : Bool) → Translation → List ℕ
answer_text false translation = translation.line.items ++ codes "\n"
answer_text true translation = answer_object translation.uncounted translation.line.items translation.left_out.items

-- the line's object, as people know it, where it has a name
abbrev pub in_parentheses : (object : List ℕ) → List ℕ
in_parentheses [] = []
in_parentheses (x ∷ more) = codes " (" ++ x ∷ more ++ codes ")"

-- what is said of a line that gives one, and of a line that gives none
abbrev pub left_out_words : (line : List ℕ) → List ℕ
left_out_words [] = codes " is left out: "
left_out_words (x ∷ more) = codes ": left out: "

abbrev pub left_out_line : (number : ℕ) → (object gives left_out : List ℕ) → List ℕ
left_out_line number object gives [] = []
left_out_line number object gives (x ∷ more) =
    codes "line " ++ decimal number ++ in_parentheses object ++ left_out_words gives ++ x ∷ more ++ codes "\n"

-- what is told beside the answer to the line of this number: what is left out of its object, where
-- no answer says it
unfoldable pub left_out_text : (answers : Bool) → (number : ℕ) → (line : List ℕ) → Translation → List ℕ
left_out_text true number line translation = []
left_out_text false number line translation = left_out_line number (name_in line) translation.line.items translation.left_out.items

-- the answers to all lines
abbrev pub answers_text : (answers : Bool) → List Translation → List ℕ
answers_text answers [] = []
answers_text answers (translation ∷ translations) = answer_text answers translation ++ answers_text answers translations

-- what is told beside them, the first of which has this number
abbrev pub left_out_texts : (answers : Bool) → (number : ℕ) → (lines : List (List ℕ)) → List Translation → List ℕ
left_out_texts answers number (line ∷ lines) (translation ∷ translations) =
    left_out_text answers number line translation ++ left_out_texts answers (number + 1) lines translations
left_out_texts answers number _ _ = []

-- these are the answers to all lines of the input, and what is told beside them
pub record IsWholeTranslation (manner : Manner) (input answers left_out : List ℕ) : Type 0 where
  pub translations : List Translation
  pub next : ℕ
  pub are : AreTranslated manner 1 (lines_of input) translations next
  pub answers_are : answers ≡ answers_text manner.answers translations
  pub left_out_are : left_out ≡ left_out_texts manner.answers 1 (lines_of input) translations

-- This line is the first behind which there is no going on: these are the answers to the lines in
-- front of it, and what is told beside them.
pub record EndsAtLine (manner : Manner) (input : List ℕ) (lost : LineUncounted) (answers left_out : List ℕ) : Type 0 where
  pub lines : List (List ℕ)
  pub line : List ℕ
  pub later : List (List ℕ)
  pub cut : lines_of input ≡ lines ++ line ∷ later
  pub number_is : lost.number ≡ length lines + 1
  pub object_is : lost.object.items ≡ excerpt_of (name_in line)
  pub translations : List Translation
  pub next : ℕ
  pub are : AreTranslated manner 1 lines translations next
  pub uncounted : told_under manner next line ≡ None
  pub answers_are : answers ≡ answers_text manner.answers translations
  pub left_out_are : left_out ≡ left_out_texts manner.answers 1 lines translations

-- these are beginnings of the answers to the first lines, which may be all, and of what is told
-- beside them
pub record BeginsTranslation (manner : Manner) (input answers left_out : List ℕ) : Type 0 where
  pub lines : List (List ℕ)
  pub later : List (List ℕ)
  pub cut : lines_of input ≡ lines ++ later
  pub translations : List Translation
  pub next : ℕ
  pub are : AreTranslated manner 1 lines translations next
  pub answers_rest : List ℕ
  pub answers_begin : answers_text manner.answers translations ≡ answers ++ answers_rest
  pub left_out_rest : List ℕ
  pub left_out_begin : left_out_texts manner.answers 1 lines translations ≡ left_out ++ left_out_rest

-- ---- a translation

-- behind this text a fault's line is told, or a beginning of it where a write fails meanwhile
abbrev pub TellsBehind : DeviceUse → (text : List ℕ) → Fault → Type 0
TellsBehind err text fault =
    (between : Option (List ℕ)) × Appends err.old between text
    × Tells between err.new err.failures_old err.failures_new (message_of fault)

-- A translation of the source's lines ended with this status.
pub record IsTranslated (manner : Manner) (source out err : DeviceUse) (ended : ℕ) : Type 0 where
  -- these are the statuses of a translation
  pub status : (ended ≡ 0) ⊎ ((ended ≡ 1) ⊎ ((ended ≡ 3) ⊎ (ended ≡ 4)))
  -- what is written of answers, and what is told of what they leave out
  pub answers : List ℕ
  pub left_out : List ℕ
  pub writes : Appends out.old out.new answers
  -- each line is answered, no fault is told, and everything is read
  pub done : ended ≡ 0 → Appends err.old err.new left_out
      × IfSome source.old (λ input. IsWholeTranslation manner input answers left_out × (source.new ≡ Some []))
  -- each line is answered up to one that can't be counted, and that is told with its object's name
  pub uncounted : ended ≡ 1 → (lost : LineUncounted) × TellsBehind err left_out (Uncounted lost)
      × IfSome source.old (λ input. EndsAtLine manner input lost answers left_out)
  -- memory was wanting, and that is told
  pub room : ended ≡ 3 → TellsBehind err left_out (Run run_fault.NoMemory)
  -- a read or a write failed, and that is told; or it couldn't be told what is left out
  pub failed : ended ≡ 4 → TellsBehind err left_out (Run run_fault.Read) × (source.failures_old < source.failures_new)
      ⊎ (TellsBehind err left_out (Run run_fault.Write) × (out.failures_old < out.failures_new)
      ⊎ (Appends err.old err.new left_out × (err.failures_old < err.failures_new)))
  -- whatever it ends with, no line is answered otherwise, or before one in front of it
  pub front : IfSome source.old (λ input. BeginsTranslation manner input answers left_out)
  -- and each failure is told: at any other status no read, and no write to the output, has failed
  pub failures_told : ended ≢ 4 → (source.failures_new ≡ source.failures_old) × (out.failures_new ≡ out.failures_old)
