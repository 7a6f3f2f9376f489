-- What `run` leaves on the shelf, by its answer.
use Rattle.std.proofs.Common.{◌≡◌, ◌⊎◌, inl, inr, ℕ, false, List, Option, Some, None, sym, subst}
use Rattle.cluster_run.proofs.AllNames.{all_back}
use Rattle.speclog.specs.declared.fault.Fault.{Fault}
use Rattle.speclog.specs.declared.fault.Fault.TheVariants.{Usage, ReadFault, InputTooLong, Script, NoMessage, TooLong as too_many_entries}
use Rattle.speclog.specs.declared.fault.Fault.TheVariants.{ShelfFault, OutOfMemory, WriteFault}
use Rattle.msg_wire.specs.Nodes.{nodes_of}
use Rattle.speclog.specs.declared.input.ReadError.{ReadError}
use Rattle.speclog.specs.declared.input.ReadError.TheVariants.{Failed, TooLong, OutOfMemory as read_out_of_memory}
use Rattle.speclog.specs.Answers.{fault_of_read}
use Rattle.speclog.specs.Shelves.{Shelving, RunsOnDisks, Shelves}

module _ {D : Type 0} where
  module _ (seen : D → Option (List ℕ)) (faults : D → ℕ) (input : List ℕ) (shelf : Shelving D) (same : Type 0) where
    -- a run whose summary the sink refused, or which memory did
    pub not_written : RunsOnDisks seen faults input None shelf → RunsOnDisks seen faults input (Some WriteFault) shelf
    not_written ran = record {
      plan = ran.plan;
      spelled = ran.spelled;
      uses = record { back = ran.uses.back; others = ran.uses.others; stored = ran.uses.stored; blamed = tt };
    }

    pub no_memory_left : RunsOnDisks seen faults input None shelf → RunsOnDisks seen faults input (Some OutOfMemory) shelf
    no_memory_left ran = record {
      plan = ran.plan;
      spelled = ran.spelled;
      uses = record { back = ran.uses.back; others = ran.uses.others; stored = inr (inr ran.uses.stored); blamed = tt };
    }

    -- before the input was read the shelf isn't touched
    unread_by : (error : ReadError) → same → Shelves seen faults input (Some (fault_of_read error)) shelf same
    unread_by Failed stays = stays
    unread_by TooLong stays = stays
    unread_by read_out_of_memory stays = inl stays

    pub unread : (error : ReadError) (fault : Option Fault) → fault ≡ Some (fault_of_read error) → same → Shelves seen faults input fault shelf same
    unread error fault is stays = subst (λ f. Shelves seen faults input f shelf same) (sym is) (unread_by error stays)

    pub unused : (word : ℕ) (fault : Option Fault) → fault ≡ Some (Usage word) → same → Shelves seen faults input fault shelf same
    unused word fault is stays = subst (λ f. Shelves seen faults input f shelf same) (sym is) stays

    ran_back : (fault : Option Fault) → RunsOnDisks seen faults input fault shelf → ((name : List ℕ) → (shelf.before name).is_out ≡ false)
        → (name : List ℕ) → (shelf.after name).is_out ≡ false
    ran_back fault ran on = all_back shelf.before shelf.after (nodes_of ran.plan.cfg) ran.uses.back ran.uses.others on

    -- whatever the answer is, no disk is out
    pub shelf_back : (fault : Option Fault) → Shelves seen faults input fault shelf same → (same → (name : List ℕ) → (shelf.after name).is_out ≡ false)
        → ((name : List ℕ) → (shelf.before name).is_out ≡ false) → (name : List ℕ) → (shelf.after name).is_out ≡ false
    shelf_back None ran kept on = ran_back None ran on
    shelf_back (Some WriteFault) ran kept on = ran_back (Some WriteFault) ran on
    shelf_back (Some (ShelfFault name)) ran kept on = ran_back (Some (ShelfFault name)) ran on
    shelf_back (Some OutOfMemory) (inl stays) kept on = kept stays
    shelf_back (Some OutOfMemory) (inr ran) kept on = ran_back (Some OutOfMemory) ran on
    shelf_back (Some (Usage word)) stays kept on = kept stays
    shelf_back (Some ReadFault) stays kept on = kept stays
    shelf_back (Some InputTooLong) stays kept on = kept stays
    shelf_back (Some (Script line kind)) stays kept on = kept stays
    shelf_back (Some (NoMessage line number sent)) stays kept on = kept stays
    shelf_back (Some (too_many_entries line)) stays kept on = kept stays
