-- What is told of failures, at each end of what runs by a site's plugins.
use Rattle.std.proofs.Common.{◌≡◌, ◌≢◌, ◌⊎◌, ◌∙◌, ◌<◌, ℕ, List, inl, inr, refl, sym, subst, ap, arith}
use Rattle.streams.specs.Device.{DeviceUse}
use Rattle.streams.specs.declared.fault.RunFault.TheVariants as run_fault
use Rattle.command.specs.Words.{SpecSyntax}
use Rattle.command.specs.declared.fault.WordFault.TheVariants as word_fault
use Rattle.fault_line.specs.declared.fault.Fault.{Fault}
use Rattle.fault_line.specs.declared.fault.Fault.TheVariants.{Words, Misused, Plugin, Unread, UnreadModule, Run, Uncounted}
use Rattle.fault_line.specs.declared.unread.PluginUnread.{PluginUnread}
use Rattle.fault_line.specs.Fault.{status_of}
use Rattle.site_modules.specs.Told.{TellsFailures, TellsFault}
use Rattle.site_modules.specs.Modules.{IsToldAs, UnreadPlugin, WhyNoModules, WhyNoPlugin, WhyNoSite}
use Rattle.fault_line.specs.Message.{message_of, run_text}

-- want of memory is told in the same words, whatever it was wanted for
pub no_memory_told : message_of (Words word_fault.NoMemory) ≡ message_of (Run run_fault.NoMemory)
unfolding message_of run_text
no_memory_told = refl

-- ---- what is told of failures

-- what is so where a fault is told, besides that it is
abbrev pub Besides : (Left NotBegun : Type 0) (NoFile : PluginUnread → Type 0) → (source out : DeviceUse) → Fault → Type 0
Besides Left NotBegun NoFile source out (Run run_fault.NoPlace) = Left × out.IsUntouched × (source.failures_new ≡ source.failures_old) × (out.failures_new ≡ out.failures_old)
Besides Left NotBegun NoFile source out (Run run_fault.Read) = (NotBegun × source.IsUntouched × out.IsUntouched) ⊎ (source.failures_old < source.failures_new)
Besides Left NotBegun NoFile source out (Run run_fault.Write) = out.failures_old < out.failures_new
Besides Left NotBegun NoFile source out (Run run_fault.NoMemory) = (source.failures_new ≡ source.failures_old) × (out.failures_new ≡ out.failures_old)
Besides Left NotBegun NoFile source out (Run (run_fault.Line number why)) = (source.failures_new ≡ source.failures_old) × (out.failures_new ≡ out.failures_old)
Besides Left NotBegun NoFile source out (Unread unread) = NoFile unread × source.IsUntouched × out.IsUntouched
Besides Left NotBegun NoFile source out (Plugin name why) = (source.failures_new ≡ source.failures_old) × (out.failures_new ≡ out.failures_old)
Besides Left NotBegun NoFile source out (Misused why) = (source.failures_new ≡ source.failures_old) × (out.failures_new ≡ out.failures_old)
Besides Left NotBegun NoFile source out (Words why) = (source.failures_new ≡ source.failures_old) × (out.failures_new ≡ out.failures_old)
Besides Left NotBegun NoFile source out (UnreadModule fault) = ⊥
Besides Left NotBegun NoFile source out (Uncounted line) = (source.failures_new ≡ source.failures_old) × (out.failures_new ≡ out.failures_old)

module _ (Left NotBegun : Type 0) (NoFile : PluginUnread → Type 0) (source out err : DeviceUse) (ended : ℕ) where
  -- a fault that leaves the devices' failures as they were is told
  kept : (n : ℕ) → ended ≡ n → n ≢ 0 → n ≢ 4 → (n ≡ 3 → TellsFault err (Run run_fault.NoMemory)
      ⊎ (TellsFault err (Run run_fault.NoPlace) × Left × out.IsUntouched))
      → (source.failures_new ≡ source.failures_old) × (out.failures_new ≡ out.failures_old) → TellsFailures Left NotBegun NoFile source out err ended
  kept n is some other room same = record {
    quiet = λ e. absurd (some (sym is ∙ e));
    room = λ e. room (sym is ∙ e);
    failed = λ e. absurd (other (sym is ∙ e));
    failures_told = λ _. same;
  }

  -- a fault is told
  pub told : (fault : Fault) → ended ≡ status_of fault → TellsFault err fault → Besides Left NotBegun NoFile source out fault → TellsFailures Left NotBegun NoFile source out err ended
  told (Words word_fault.BadWords) is tells besides = kept 2 is (λ e. omega (arith, e)) (λ e. omega (arith, e)) (λ e. absurd (omega (arith, e))) besides
  told (Words word_fault.NoMemory) is tells besides =
      kept 3 is (λ e. omega (arith, e)) (λ e. omega (arith, e)) (λ _. inl (rw no_memory_told at tells)) besides
  told (Misused why) is tells besides = kept 2 is (λ e. omega (arith, e)) (λ e. omega (arith, e)) (λ e. absurd (omega (arith, e))) besides
  told (Plugin name why) is tells besides = kept 1 is (λ e. omega (arith, e)) (λ e. omega (arith, e)) (λ e. absurd (omega (arith, e))) besides
  told (UnreadModule fault) is tells besides = absurd besides
  told (Uncounted line) is tells besides = kept 1 is (λ e. omega (arith, e)) (λ e. omega (arith, e)) (λ e. absurd (omega (arith, e))) besides
  told (Run (run_fault.Line number why)) is tells besides = kept 1 is (λ e. omega (arith, e)) (λ e. omega (arith, e)) (λ e. absurd (omega (arith, e))) besides
  told (Run run_fault.NoMemory) is tells besides = kept 3 is (λ e. omega (arith, e)) (λ e. omega (arith, e)) (λ _. inl tells) besides
  told (Run run_fault.NoPlace) is tells (unread, unwritten, reads, writes) =
      kept 3 is (λ e. omega (arith, e)) (λ e. omega (arith, e)) (λ _. inr (tells, unread, unwritten)) (reads, writes)
  told (Run run_fault.Read) is tells besides = record {
    quiet = λ e. absurd (omega (arith, is, e));
    room = λ e. absurd (omega (arith, is, e));
    failed = λ _. inl (tells, besides);
    failures_told = λ other. absurd (other is);
  }
  told (Run run_fault.Write) is tells besides = record {
    quiet = λ e. absurd (omega (arith, is, e));
    room = λ e. absurd (omega (arith, is, e));
    failed = λ _. inr (inl (tells, besides));
    failures_told = λ other. absurd (other is);
  }
  told (Unread unread) is tells besides = record {
    quiet = λ e. absurd (omega (arith, is, e));
    room = λ e. absurd (omega (arith, is, e));
    failed = λ _. inr (inr (unread, tells, besides.0, besides.1, besides.2));
    failures_told = λ other. absurd (other is);
  }

  -- all was done
  pub nothing_told : ended ≡ 0 → err.IsUntouched → source.failures_new ≡ source.failures_old → out.failures_new ≡ out.failures_old → TellsFailures Left NotBegun NoFile source out err ended
  nothing_told is quiet reads writes = record {
    quiet = λ _. quiet;
    room = λ e. absurd (omega (arith, is, e));
    failed = λ e. absurd (omega (arith, is, e));
    failures_told = λ _. (reads, writes);
  }

-- why there are no kits of a site is an input's fault, or want of memory
plugin_status : (name bytes : List ℕ) (fault : Fault) → WhyNoPlugin name bytes fault → (status_of fault ≡ 1) ⊎ (fault ≡ Run run_fault.NoMemory)
plugin_status name bytes (Words why) why_not = absurd why_not
plugin_status name bytes (Misused why) why_not = absurd why_not
plugin_status name bytes (Plugin named why) why_not = inl refl
plugin_status name bytes (Unread named) why_not = absurd why_not
plugin_status name bytes (UnreadModule fault) why_not = absurd why_not
plugin_status name bytes (Uncounted line) why_not = absurd why_not
plugin_status name bytes (Run run_fault.NoMemory) why_not = inr refl
plugin_status name bytes (Run (run_fault.Line number why)) why_not = absurd why_not
plugin_status name bytes (Run run_fault.Read) why_not = absurd why_not
plugin_status name bytes (Run run_fault.Write) why_not = absurd why_not
plugin_status name bytes (Run run_fault.NoPlace) why_not = absurd why_not

pub site_status : (specs : List SpecSyntax) (modules : List (List ℕ)) (fault : Fault) → WhyNoSite specs modules fault → (status_of fault ≡ 1) ⊎ (fault ≡ Run run_fault.NoMemory)
site_status specs modules fault (inl memory) = inr memory
site_status specs modules fault (inr (inl refused)) = plugin_status refused.spec.name refused.bytes fault refused.why
site_status specs modules fault (inr (inr refused)) = by refused.none.told
  where
    by : IsToldAs refused.none.kit fault → (status_of fault ≡ 1) ⊎ (fault ≡ Run run_fault.NoMemory)
    by (inl (is, memory)) = inr memory
    by (inr (is, plugin)) = inl (ap status_of plugin)

-- then the devices' failures are as they were
besides_no_site : (Left NotBegun : Type 0) (NoFile : PluginUnread → Type 0) (source out : DeviceUse) (fault : Fault) → (status_of fault ≡ 1) ⊎ (fault ≡ Run run_fault.NoMemory)
    → source.failures_new ≡ source.failures_old → out.failures_new ≡ out.failures_old → Besides Left NotBegun NoFile source out fault
besides_no_site Left NotBegun NoFile source out fault (inr memory) reads writes = subst (Besides Left NotBegun NoFile source out) (sym memory) (reads, writes)
besides_no_site Left NotBegun NoFile source out (Words why) (inl one) reads writes = (reads, writes)
besides_no_site Left NotBegun NoFile source out (Misused why) (inl one) reads writes = (reads, writes)
besides_no_site Left NotBegun NoFile source out (Plugin name why) (inl one) reads writes = (reads, writes)
besides_no_site Left NotBegun NoFile source out (UnreadModule fault) (inl one) reads writes = absurd (omega (arith, one))
besides_no_site Left NotBegun NoFile source out (Uncounted line) (inl one) reads writes = (reads, writes)
besides_no_site Left NotBegun NoFile source out (Unread unread) (inl one) reads writes = absurd (omega (arith, one))
besides_no_site Left NotBegun NoFile source out (Run (run_fault.Line number why)) (inl one) reads writes = (reads, writes)
besides_no_site Left NotBegun NoFile source out (Run run_fault.NoMemory) (inl one) reads writes = (reads, writes)
besides_no_site Left NotBegun NoFile source out (Run run_fault.Read) (inl one) reads writes = absurd (omega (arith, one))
besides_no_site Left NotBegun NoFile source out (Run run_fault.Write) (inl one) reads writes = absurd (omega (arith, one))
besides_no_site Left NotBegun NoFile source out (Run run_fault.NoPlace) (inl one) reads writes = absurd (omega (arith, one))

-- and why there is none is told
pub no_site_told : (Left NotBegun : Type 0) (NoFile : PluginUnread → Type 0) (source out err : DeviceUse) (ended : ℕ) (specs : List SpecSyntax) (modules : List (List ℕ)) (fault : Fault) → WhyNoSite specs modules fault
    → ended ≡ status_of fault → TellsFault err fault → source.failures_new ≡ source.failures_old → out.failures_new ≡ out.failures_old → TellsFailures Left NotBegun NoFile source out err ended
no_site_told Left NotBegun NoFile source out err ended specs modules fault why is tells reads writes =
    told Left NotBegun NoFile source out err ended fault is tells (besides_no_site Left NotBegun NoFile source out fault (site_status specs modules fault why) reads writes)

-- ---- there are no modules of the plugins

-- memory was wanting, or a plugin's file couldn't be read
why_none : (specs : List SpecSyntax) (failures_old failures_new : ℕ) (fault : Fault) → WhyNoModules specs failures_old failures_new fault
    → ((fault ≡ Run run_fault.NoMemory) × (failures_new ≡ failures_old)) ⊎ ((unread : PluginUnread) × (fault ≡ Unread unread) × UnreadPlugin specs failures_old failures_new unread)
why_none specs failures_old failures_new (Words fault) why = absurd why
why_none specs failures_old failures_new (Misused fault) why = absurd why
why_none specs failures_old failures_new (Plugin name fault) why = absurd why
why_none specs failures_old failures_new (UnreadModule unread) why = absurd why
why_none specs failures_old failures_new (Uncounted line) why = absurd why
why_none specs failures_old failures_new (Unread unread) why = inr (unread, refl, why)
why_none specs failures_old failures_new (Run run_fault.NoMemory) why = inl (refl, why)
why_none specs failures_old failures_new (Run (run_fault.Line number fault)) why = absurd why
why_none specs failures_old failures_new (Run run_fault.Read) why = absurd why
why_none specs failures_old failures_new (Run run_fault.Write) why = absurd why
why_none specs failures_old failures_new (Run run_fault.NoPlace) why = absurd why

-- the statuses that tell it
pub modules_status : (specs : List SpecSyntax) (failures_old failures_new : ℕ) (fault : Fault) → WhyNoModules specs failures_old failures_new fault → (status_of fault ≡ 3) ⊎ (status_of fault ≡ 4)
modules_status specs failures_old failures_new fault why = elim (why_none specs failures_old failures_new fault why) [
  | inl memory ↦ inl (ap status_of memory.0)
  | inr unread ↦ inr (ap status_of unread.1)
]

-- at any other status than 4 no file has failed
pub no_file_failed : (specs : List SpecSyntax) (failures_old failures_new : ℕ) (fault : Fault) → WhyNoModules specs failures_old failures_new fault → status_of fault ≢ 4 → failures_new ≡ failures_old
no_file_failed specs failures_old failures_new fault why other = elim (why_none specs failures_old failures_new fault why) [
  | inl memory ↦ memory.1
  | inr unread ↦ absurd (other (ap status_of unread.1))
]

-- why there are none is told, where nothing was read or written
pub no_modules_told : (Left NotBegun : Type 0) (source out err : DeviceUse) (ended : ℕ) (specs : List SpecSyntax) (failures_old failures_new : ℕ) (fault : Fault)
    → WhyNoModules specs failures_old failures_new fault → ended ≡ status_of fault → TellsFault err fault
    → source.IsUntouched → out.IsUntouched → source.failures_new ≡ source.failures_old → out.failures_new ≡ out.failures_old
    → TellsFailures Left NotBegun (UnreadPlugin specs failures_old failures_new) source out err ended
no_modules_told Left NotBegun source out err ended specs failures_old failures_new fault why is tells unread unwritten reads writes =
    told Left NotBegun (UnreadPlugin specs failures_old failures_new) source out err ended fault is tells (by (why_none specs failures_old failures_new fault why))
  where
    by : ((fault ≡ Run run_fault.NoMemory) × (failures_new ≡ failures_old)) ⊎ ((unread : PluginUnread) × (fault ≡ Unread unread) × UnreadPlugin specs failures_old failures_new unread)
        → Besides Left NotBegun (UnreadPlugin specs failures_old failures_new) source out fault
    by (inl (memory, same)) = subst (Besides Left NotBegun (UnreadPlugin specs failures_old failures_new) source out) (sym memory) (reads, writes)
    by (inr (name, is, lacks)) = subst (Besides Left NotBegun (UnreadPlugin specs failures_old failures_new) source out) (sym is) (lacks, unread, unwritten)

-- ---- the same, where less is said of why nothing was begun and of files

pub failures_given : (Left A B : Type 0) (NoFileA NoFileB : PluginUnread → Type 0) (source out err : DeviceUse) (ended : ℕ) → (A → B) → ((unread : PluginUnread) → NoFileA unread → NoFileB unread)
    → TellsFailures Left A NoFileA source out err ended → TellsFailures Left B NoFileB source out err ended
failures_given Left A B NoFileA NoFileB source out err ended weaker lacking failures = record {
  quiet = failures.quiet;
  room = failures.room;
  failed = λ e. by (failures.failed e);
  failures_told = failures.failures_told;
}
  where
    by : TellsFault err (Run run_fault.Read) × ((A × source.IsUntouched × out.IsUntouched) ⊎ (source.failures_old < source.failures_new))
        ⊎ (TellsFault err (Run run_fault.Write) × (out.failures_old < out.failures_new)
        ⊎ ((unread : PluginUnread) × TellsFault err (Unread unread) × NoFileA unread × source.IsUntouched × out.IsUntouched))
        → TellsFault err (Run run_fault.Read) × ((B × source.IsUntouched × out.IsUntouched) ⊎ (source.failures_old < source.failures_new))
        ⊎ (TellsFault err (Run run_fault.Write) × (out.failures_old < out.failures_new)
        ⊎ ((unread : PluginUnread) × TellsFault err (Unread unread) × NoFileB unread × source.IsUntouched × out.IsUntouched))
    by (inl (tells, inl (begun, unread, unwritten))) = inl (tells, inl (weaker begun, unread, unwritten))
    by (inl (tells, inr read)) = inl (tells, inr read)
    by (inr (inl write)) = inr (inl write)
    by (inr (inr (name, tells, lacks, unread, unwritten))) = inr (inr (name, tells, lacking name lacks, unread, unwritten))
