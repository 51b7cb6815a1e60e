-- How a machine enters functions, and what it does for host functions.
use Rattle.std.specs.Prelude.{◌≡◌, ℕ, ◌+◌, ◌-◌, ◌%◌, ◌^◌, ◌<◌, ◌≤◌, ◌⊎◌, List, [], ◌∷◌, ◌++◌, Option, Some, None, Result, Ok, Err, true, false, IfSome, length, take, replicate, slice_get}
use Rattle.std.specs.List.{AllByRecursion}
use Rattle.wmem.specs.Access.{with_bytes}
use Rattle.wstore.specs.State.{StoreState, syntax_of, with_memory}
use Rattle.wmach.specs.declared.activation.Activation.{Activation}
use Rattle.wmach.specs.declared.code.Code.{Code}
use Rattle.rules.specs.declared.trap.Trap.{Trap}
use Rattle.rules.specs.declared.trap.Trap.TheVariants.{UndefinedElement, UninitializedElement, CallDepth, NoRecord, HostOutOfBounds}
use Rattle.wmach.specs.declared.shape.Shape.{Shape}
use Rattle.wmach.specs.declared.state.State.{State}
use Rattle.wmach.specs.declared.state.Stop.{Stop}
use Rattle.wmach.specs.declared.state.Stop.TheVariants as stop
use Rattle.wmach.specs.Host.{cost_of_bytes, has_room}
use Rattle.wmach.specs.Reduction.{most_frames}
use Rattle.wmach.specs.inside.Running.{activation_of}

-- what the table has at a place: a function, or why there is none
abbrev pub ElementGives : Option (Option ℕ) → Result ℕ Trap → Type 0
ElementGives element (Ok function) = element ≡ Some (Some function)
ElementGives element (Err trap) = ((element ≡ None) × (trap ≡ UndefinedElement)) ⊎ ((element ≡ Some None) × (trap ≡ UninitializedElement))

-- the function that runs, where it goes on after a call
abbrev pub waiting_at : State → (next_at : ℕ) → Activation
waiting_at s next_at = record { function = s.function; at = next_at; cursor = s.cursor; base = s.base; operands = s.operands }

-- A function of the module is entered, while the one that called it waits.
pub record Entered (c : Code) (function next_at : ℕ) (s : State) (waiting : List Activation) (slots : List ℕ) (after : State) (waiting_after : List Activation) (slots_after : List ℕ) : Type 0 where
  pub room : length waiting + 1 < most_frames
  pub shape : Shape
  pub shape_is : slice_get c.shapes.now function ≡ Some shape
  pub waits : waiting_after ≡ waiting ++ waiting_at s next_at ∷ []
  pub there : activation_of after ≡ record { function = function; at = shape.begin; cursor = 0; base = s.top - shape.parameters; operands = s.top + shape.locals }
  pub end : after.end ≡ shape.end
  pub left : after.left ≡ s.left
  pub top : after.top ≡ s.top + shape.locals
  pub pushed : take after.top slots_after ≡ take s.top slots ++ replicate shape.locals 0
  pub within : after.top ≤ length slots_after
  pub long : length slots_after ≡ length slots

-- Or there is no room for another frame.
abbrev pub Enters : Code → (function next_at : ℕ) → State → List Activation → (slots : List ℕ) → Result State Stop → List Activation → (slots_after : List ℕ) → Type 0
Enters c function next_at s waiting slots (Ok after) waiting_after slots_after = Entered c function next_at s waiting slots after waiting_after slots_after
Enters c function next_at s waiting slots (Err how) waiting_after slots_after =
    (most_frames ≤ length waiting + 1) × (how ≡ stop.Trap CallDepth s.left) × (waiting_after ≡ waiting) × (slots_after ≡ slots)

-- The length of a record is on top, in place of an address and a limit.
pub record Answered (next_at : ℕ) (s : State) (below : List ℕ) (bytes : List ℕ) (left : ℕ) (slots : List ℕ) (result : Result State Stop) (slots_after : List ℕ) : Type 0 where
  pub after : State
  pub is : result ≡ Ok after
  pub after_is : after ≡ record s { at = next_at; top = s.top - 1; left = left }
  pub pushed : take after.top slots_after ≡ below ++ (length bytes % 2 ^ 32) ∷ []
  pub within : after.top ≤ length slots_after
  pub long : length slots_after ≡ length slots

-- nothing is done, and the call stops
pub record StopsBy (how : Stop) (slots : List ℕ) (store : StoreState) (result : Result State Stop) (slots_after : List ℕ) (store_after : StoreState) : Type 0 where
  pub is : result ≡ Err how
  pub slots_are : slots_after ≡ slots
  pub store_is : store_after ≡ store

-- What is done with a record for an address and a limit.
abbrev pub HandsBy : Option (List ℕ) → (address limit next_at : ℕ) → State → (below : List ℕ) → (slots : List ℕ) → StoreState → Result State Stop → (slots_after : List ℕ) → StoreState → Type 0
HandsBy None address limit next_at s below slots store result slots_after store_after = StopsBy (stop.Trap NoRecord s.left) slots store result slots_after store_after
HandsBy (Some bytes) address limit next_at s below slots store result slots_after store_after =
    ((limit < length bytes) × (store_after ≡ store) × Answered next_at s below bytes s.left slots result slots_after)
    ⊎ ((length bytes ≤ limit)
    × (((has_room (syntax_of store) store.current address (length bytes) ≡ false) × StopsBy (stop.Trap HostOutOfBounds s.left) slots store result slots_after store_after)
    ⊎ ((has_room (syntax_of store) store.current address (length bytes) ≡ true)
    × (((s.left < cost_of_bytes (length bytes)) × StopsBy (stop.Exhausted s.left) slots store result slots_after store_after)
    ⊎ ((cost_of_bytes (length bytes) ≤ s.left) × (store_after ≡ with_memory store (with_bytes store.current.memory address bytes))
    × Answered next_at s below bytes (s.left - cost_of_bytes (length bytes)) slots result slots_after)))))

-- a host function, by the record that it hands over
pub record HandsOver (given : Option (List ℕ)) (next_at : ℕ) (s : State) (slots : List ℕ) (store : StoreState) (result : Result State Stop) (slots_after : List ℕ) (store_after : StoreState) : Type 0 where
  pub address : ℕ
  pub limit : ℕ
  pub below : List ℕ
  pub operands : take s.top slots ≡ (below ++ address ∷ []) ++ limit ∷ []
  pub are_bytes : IfSome given (λ bytes. AllByRecursion (λ byte. byte < 256) bytes)
  pub done : HandsBy given address limit next_at s below slots store result slots_after store_after

-- There is room for what a call of a function needs: of the host's, its two operands; of the
-- module's own, its arguments and its locals.
abbrev pub HasOperands : State → (slots : List ℕ) → Type 0
HasOperands s slots =
    (below : List ℕ) × (address limit : ℕ) × (take s.top slots ≡ (below ++ address ∷ []) ++ limit ∷ []) × (address < 2 ^ 32) × (limit < 2 ^ 32)

abbrev pub HasRoom : Shape → State → List Activation → (slots : List ℕ) → Type 0
HasRoom shape s waiting slots = length waiting + 1 < most_frames → (shape.parameters ≤ s.top) × (s.top + shape.locals ≤ length slots)

pub record CanInvoke (c : Code) (function : ℕ) (s : State) (waiting : List Activation) (slots : List ℕ) : Type 0 where
  pub within : s.top ≤ length slots
  pub of_host : function < length c.records.now → HasOperands s slots
  pub own : length c.records.now ≤ function → function - length c.records.now < length c.shapes.now
  pub room : (shape : Shape) → length c.records.now ≤ function → slice_get c.shapes.now (function - length c.records.now) ≡ Some shape → HasRoom shape s waiting slots

-- A function that is called, by its index: the host's first.
abbrev pub Invokes : Code → (given : ℕ → Option (List ℕ)) → (function next_at : ℕ) → State → List Activation → (slots : List ℕ) → StoreState → Result State Stop → List Activation → (slots_after : List ℕ) → StoreState → Type 0
Invokes c given function next_at s waiting slots store result waiting_after slots_after store_after =
    ((import : ℕ) × (slice_get c.records.now function ≡ Some import) × (waiting_after ≡ waiting) × HandsOver (given import) next_at s slots store result slots_after store_after)
    ⊎ ((length c.records.now ≤ function) × (store_after ≡ store) × Enters c (function - length c.records.now) next_at s waiting slots result waiting_after slots_after)
