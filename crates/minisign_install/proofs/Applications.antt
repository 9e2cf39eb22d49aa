-- Derives laws about lawful applications from those about lists of events.
use Rattle.std.specs.Prelude.{◌≡◌, ◌≤◌, ◌+◌, ◌*◌, ℕ, List, [], ◌∷◌, length, map, true}
use Rattle.std.proofs.Common.{refl, suc, sym, ap}
use Rattle.minisign_install.specs.Applications.{Applies, Call, Snapshot}
use Rattle.minisign_install.specs.Applications.{Others, Performs}
use Rattle.minisign_install.specs.Decisions.{Options}
use Rattle.minisign_install.specs.Faults.{InstallFault}
use Rattle.minisign_install.specs.StepRuns.{IsAtTimeIn, IsReason, total}
use Rattle.minisign_install.specs.Step.{after}
use Rattle.std.specs.Prelude.{⊤, Bool, Err, Option, is_some}
use Rattle.minisign_external.specs.declared.state.Refusal.TheVariants.{Refused}
use Rattle.minisign_install.specs.Histories.{AllEvents}
use Rattle.minisign_install.specs.Step.{Event, Installed, State, begin, has_ended, step}
use Rattle.minisign_install.specs.StepRuns.{IsEnd, IsAcceptable, IsGoodUpdate, IsRun, IsLawfulEvent, World}
use Rattle.minisign_install.specs.StepRuns.{count}
use Rattle.minisign_install.proofs.SafeCalls.{Invariant, next, true_event, true_run}
use Rattle.minisign_install.proofs.SafeCalls as safe_calls
use Rattle.minisign_install.proofs.StepArrivals.{good_update_gets_installed}
use Rattle.minisign_install.proofs.StepEnds.{run_ends}
use Rattle.minisign_install.proofs.StepReasons.{ends_are_true, errors_are_true}
use Rattle.minisign_install.specs.Histories.{list_calls}

-- The event that was reported.
abbrev pub event_of : Call → Event
event_of c = c.event

-- A run all of whose events have a property is a run of events with this property.
run_with_property : (w : World) (P : Event → Type 0) (n : ℕ) (s : State) (calls : List Call) (t : State)
    → IsRun (IsLawfulEvent w) n s (map event_of calls) t → AllEvents P calls
    → IsRun (λ n s e. IsLawfulEvent w n s e × P e) n s (map event_of calls) t
run_with_property w P n s [] t run each = run
run_with_property w P n s (c ∷ more) t (is, run) (holds, each) =
    ((is, holds), run_with_property w P (count n c.event) (step s c.event).1 more t run each)

-- If the update is good and no event is a failure, a run that has ended has installed the update.
pub good_update_is_installed : (w : World) (o : Options) (g : IsGoodUpdate w o) (m : Snapshot)
    (calls : List Call) (t : State) (end : Snapshot) → Applies w (begin o) m calls t end
    → AllEvents (IsAcceptable g) calls → has_ended t.due ≡ true → t.due ≡ Installed
good_update_is_installed w o g m calls t end run fine ended =
    good_update_gets_installed w o g (map event_of calls) t
    (run_with_property w (IsAcceptable g) 0 (begin o) calls t (true_run w o m calls t end run) fine) ended

-- If a run ends as installed, already installed or would install, then IsEnd holds.
pub reported_ends_are_true : (w : World) (o : Options) (times : Option ℕ → Bool) (m : Snapshot)
    (calls : List Call) (t : State) (end : Snapshot) → Applies w (begin o) m calls t end
    → AllEvents (IsAtTimeIn times) calls → IsEnd w o times t.due
reported_ends_are_true w o times m calls t end run timed =
    ends_are_true w o times (map event_of calls) t
    (run_with_property w (IsAtTimeIn times) 0 (begin o) calls t (true_run w o m calls t end run) timed)

length_map : (calls : List Call) → length (map event_of calls) ≡ length calls
length_map [] = refl
length_map (c ∷ more) = ap suc (length_map more)

-- The length of a run is bounded by the lengths of the data and of the installed file.
pub application_ends : (w : World) (o : Options) (m : Snapshot) (calls : List Call) (t : State)
    (end : Snapshot) → Applies w (begin o) m calls t end
    → length calls ≤ 23 + list_calls o + length o.keys + w.max_size + 2 * length w.update
application_ends w o m calls t end run =
    rw (sym (length_map calls)) (run_ends w o (map event_of calls) t (true_run w o m calls t end run))

-- The event of a call after a run is lawful.
last_event_is_lawful : (w : World) (o : Options) (n : ℕ) (s : State) (m : Snapshot) (calls : List Call)
    (t : State)
    (end : Snapshot) (c : Call) → Invariant w o ⊤ ⊥ n s m → Applies w s m calls t end → Others end c.before
    → is_some (after t.due c.event t) ≡ true → Performs w t t.due c.event c.before c.after
    → IsLawfulEvent w (total n (map event_of calls)) t c.event
last_event_is_lawful w o n s m [] t end c known (is, same) others fits done =
    true_event w o ⊤ ⊥ n t end c (rw (is, same) known) others (λ q. absurd q) fits done
last_event_is_lawful w o n s m (d ∷ more) t end c known (others, fits, is, run) later fit done =
    last_event_is_lawful w o (count n d.event) (step s d.event).1 d.after more t end c
    (next w o ⊤ ⊥ n s m d known others (λ q. absurd q) fits is (λ found. tt)) run later fit done

-- If a call returns an error, IsReason holds: the event is a failure, the lock is in use, or an input is the
-- cause of the error.
pub reported_errors_are_true : (w : World) (o : Options) (times : Option ℕ → Bool) (m : Snapshot)
    (calls : List Call) (s : State) (end : Snapshot) (c : Call) (fault : InstallFault)
    → Applies w (begin o) m calls s end → AllEvents (IsAtTimeIn times) calls → IsAtTimeIn times c.event
    → Others end c.before → is_some (after s.due c.event s) ≡ true
    → Performs w s s.due c.event c.before c.after → (step s c.event).0 ≡ Err (Refused fault)
    → IsReason w o times s c.event fault
reported_errors_are_true w o times m calls s end c fault run timed now others fits is refuses =
    errors_are_true w o times (map event_of calls) s c.event fault
    (run_with_property w (IsAtTimeIn times) 0 (begin o) calls s (true_run w o m calls s end run) timed)
    (last_event_is_lawful w o 0 (begin o) m calls s end c (safe_calls.begins w o ⊤ ⊥ m) run others fits is)
    now refuses
