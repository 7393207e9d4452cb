use Rattle.std.proofs.Common.{◌≡◌, ◌⊎◌, Err, sym, ap, subst, ◌∙◌, rules}
use Rattle.nb_format.specs.Writer.{plan_of, fresh_plan}
use Rattle.nb_tick.specs.Slots.{slot_of}
use Rattle.nb_engine.specs.Refusal.{of_host, of_order, NeedsNoCause}
use Rattle.nb_engine.specs.Snapshots.{snapshot_files, IsSnapshotPage, IsPageDamaged}
use Rattle.nb_engine.proofs.Frames.{session_syncing, session_cached, session_by}
use Rattle.nb_engine.proofs.SnapshotSteps.{order_rose, order_fell, host_rose, host_fell, order_cause, sorted_but, settled_leads, settled_file, sorted_agrees, file_agrees, well_cached, well_syncing, well_then, is_ok, refused_as, SlotHolds, snap_plan, planned_of, high_plan, ordered, unordered, begun, images_unordered, images_not_begun, images_unfinished, filled, images_closed, closed_snapshot, broken_slot, sorted_among, plan_among, session_adds}
use Rattle.nb_engine.proofs.snapshot.write_snapshot.Goals as goal

-- where the bodies can't be put into the order of their ids

pub returns-in_err-reorder-clause-images : goal.returns-in_err-reorder-clause-images
returns-in_err-reorder-clause-images g c =
    λ bodies keys.
    images_unordered c.args.journal.now bodies (settled_leads sorted_but c.requires c.reorder.ensures.ran.writes)

pub returns-in_err-reorder-clause-cause : goal.returns-in_err-reorder-clause-cause
returns-in_err-reorder-clause-cause g c =
    let m = g.H.Host.meaning in
    let journal = c.args.journal.now in
    let slot : c.file-slot.result ≡ slot_of journal.progress.ticks =
    c.file-slot.ensures ∙ c.of.ensures ∙ ap slot_of c.ticks-ticks.ensures in
    let error = c.in_err-reorder.field-0.0 in
    let Holds = SlotHolds m journal c.args.host.now in
    let handed_on : c.from_residual.result ≡ Err (of_order error) = search rules in
    let At = IsSnapshotPage journal.progress.ticks in
    let why : NeedsNoCause (of_order error) ⊎ IsPageDamaged m At Holds (of_order error) =
    order_cause error (λ name is.
    subst (IsPageDamaged m At Holds) (sym (ap of_order is))
    (unordered journal slot c.count-count.ensures c.requires name
    (c.reorder.ensures.damaged name (c.in_err-reorder.was ∙ ap Err is)))) in
    rw handed_on why

pub returns-in_err-reorder-clause-ran : goal.returns-in_err-reorder-clause-ran
returns-in_err-reorder-clause-ran g c =
    let journal = c.args.journal.now in
    let files = snapshot_files journal.progress.ticks in
    let among = sorted_among journal.progress.ticks in
    let error = c.in_err-reorder.field-0.0 in
    let handed_on : c.from_residual.result ≡ Err (of_order error) = search rules in
    session_cached c.reorder.ensures.ran
    (sorted_agrees files among (settled_leads sorted_but c.requires c.reorder.ensures.ran.writes))
    (order_rose error c.in_err-reorder.was handed_on) (order_fell error c.in_err-reorder.was handed_on)

-- where it can't be begun

pub returns-in_err-filling-clause-images : goal.returns-in_err-filling-clause-images
returns-in_err-filling-clause-images g c =
    let journal = c.args.journal.now in
    let slot : c.file-slot.result ≡ slot_of journal.progress.ticks =
    c.file-slot.ensures ∙ c.of.ensures ∙ ap slot_of c.ticks-ticks.ensures in
    let order = ordered journal slot c.count-count.ensures c.requires c.reorder.ensures.ran c.in_ok-reorder.ensures.sorted in
    let plan : fresh_plan c.new-fresh.result ≡ snap_plan journal =
    planned_of journal c.new-fresh.ensures c.snapshot_file.ensures.number c.ticks-ticks.ensures c.count-count.ensures
    c.time.ensures in
    λ bodies keys. images_not_begun journal bodies plan order.leads c.begin.ensures.ran.leads

pub returns-in_err-filling-clause-ran : goal.returns-in_err-filling-clause-ran
returns-in_err-filling-clause-ran g c =
    let journal = c.args.journal.now in
    let slot : c.file-slot.result ≡ slot_of journal.progress.ticks =
    c.file-slot.ensures ∙ c.of.ensures ∙ ap slot_of c.ticks-ticks.ensures in
    let order = ordered journal slot c.count-count.ensures c.requires c.reorder.ensures.ran c.in_ok-reorder.ensures.sorted in
    let plan : fresh_plan c.new-fresh.result ≡ snap_plan journal =
    planned_of journal c.new-fresh.ensures c.snapshot_file.ensures.number c.ticks-ticks.ensures c.count-count.ensures
    c.time.ensures in
    let files = snapshot_files journal.progress.ticks in
    let among = sorted_among journal.progress.ticks in
    let sorted = well_cached c.reorder.ensures.ran (search rules) (sorted_agrees files among order.leads) in
    let error = c.in_err-filling.field-0.0 in
    let handed_on : c.from_residual-in_err-filling.result ≡ Err (of_host error) = search rules in
    well_then sorted is_ok
    (session_by
    (session_syncing c.begin.ensures.ran (host_rose error c.in_err-filling.was handed_on)
    (host_fell error c.in_err-filling.was handed_on) (λ ok. search rules))
    (file_agrees files (plan_among journal plan) c.begin.ensures.ran.leads))

-- where its bodies can't be added

pub add_bodies-requires-clause-settled : goal.add_bodies-requires-clause-settled
add_bodies-requires-clause-settled g c =
    let journal = c.args.journal.now in
    let slot : c.file-slot.result ≡ slot_of journal.progress.ticks =
    c.file-slot.ensures ∙ c.of.ensures ∙ ap slot_of c.ticks-ticks.ensures in
    let order = ordered journal slot c.count-count.ensures c.requires c.reorder.ensures.ran c.in_ok-reorder.ensures.sorted in
    let plan : fresh_plan c.new-fresh.result ≡ snap_plan journal =
    planned_of journal c.new-fresh.ensures c.snapshot_file.ensures.number c.ticks-ticks.ensures c.count-count.ensures
    c.time.ensures in
    let start = begun plan order c.in_ok-filling.ensures.empty c.in_ok-filling.ensures.begun c.in_ok-filling.ensures.shut
    c.begin.ensures.ran.leads in
    start.settled

pub returns-in_err-filling-2-clause-images : goal.returns-in_err-filling-2-clause-images
returns-in_err-filling-2-clause-images g c =
    let journal = c.args.journal.now in
    let slot : c.file-slot.result ≡ slot_of journal.progress.ticks =
    c.file-slot.ensures ∙ c.of.ensures ∙ ap slot_of c.ticks-ticks.ensures in
    let order = ordered journal slot c.count-count.ensures c.requires c.reorder.ensures.ran c.in_ok-reorder.ensures.sorted in
    let plan : fresh_plan c.new-fresh.result ≡ snap_plan journal =
    planned_of journal c.new-fresh.ensures c.snapshot_file.ensures.number c.ticks-ticks.ensures c.count-count.ensures
    c.time.ensures in
    let start = begun plan order c.in_ok-filling.ensures.empty c.in_ok-filling.ensures.begun c.in_ok-filling.ensures.shut
    c.begin.ensures.ran.leads in
    λ bodies keys.
    images_unfinished journal bodies (c.add_bodies.ensures.refused (snap_plan journal) c.args.host.now start.being)

pub returns-in_err-filling-2-clause-cause : goal.returns-in_err-filling-2-clause-cause
returns-in_err-filling-2-clause-cause g c =
    let m = g.H.Host.meaning in
    let journal = c.args.journal.now in
    let slot : c.file-slot.result ≡ slot_of journal.progress.ticks =
    c.file-slot.ensures ∙ c.of.ensures ∙ ap slot_of c.ticks-ticks.ensures in
    let order = ordered journal slot c.count-count.ensures c.requires c.reorder.ensures.ran c.in_ok-reorder.ensures.sorted in
    let plan : fresh_plan c.new-fresh.result ≡ snap_plan journal =
    planned_of journal c.new-fresh.ensures c.snapshot_file.ensures.number c.ticks-ticks.ensures c.count-count.ensures
    c.time.ensures in
    let start = begun plan order c.in_ok-filling.ensures.empty c.in_ok-filling.ensures.begun c.in_ok-filling.ensures.shut
    c.begin.ensures.ran.leads in
    let error = c.in_err-filling-2.field-0.0 in
    let Holds = SlotHolds m journal c.args.host.now in
    let handed_on : c.from_residual-in_err-filling-2.result ≡ Err error = search rules in
    let why : NeedsNoCause error ⊎ IsPageDamaged m (IsSnapshotPage journal.progress.ticks) Holds error =
    broken_slot c.count-count.ensures start error c.in_err-filling-2.ensures.cause in
    rw handed_on why

pub returns-in_err-filling-2-clause-ran : goal.returns-in_err-filling-2-clause-ran
returns-in_err-filling-2-clause-ran g c =
    let journal = c.args.journal.now in
    let slot : c.file-slot.result ≡ slot_of journal.progress.ticks =
    c.file-slot.ensures ∙ c.of.ensures ∙ ap slot_of c.ticks-ticks.ensures in
    let order = ordered journal slot c.count-count.ensures c.requires c.reorder.ensures.ran c.in_ok-reorder.ensures.sorted in
    let plan : fresh_plan c.new-fresh.result ≡ snap_plan journal =
    planned_of journal c.new-fresh.ensures c.snapshot_file.ensures.number c.ticks-ticks.ensures c.count-count.ensures
    c.time.ensures in
    let start = begun plan order c.in_ok-filling.ensures.empty c.in_ok-filling.ensures.begun c.in_ok-filling.ensures.shut
    c.begin.ensures.ran.leads in
    let files = snapshot_files journal.progress.ticks in
    let among = sorted_among journal.progress.ticks in
    let sorted = well_cached c.reorder.ensures.ran (search rules) (sorted_agrees files among order.leads) in
    let headed = well_then sorted is_ok
    (well_syncing c.begin.ensures.ran (search rules) (file_agrees files (plan_among journal plan) c.begin.ensures.ran.leads)) in
    let error = c.in_err-filling-2.field-0.0 in
    let handed_on : c.from_residual-in_err-filling-2.result ≡ Err error = search rules in
    well_then headed is_ok
    (refused_as error c.in_err-filling-2.was handed_on
    (session_adds journal c.in_ok-filling.filling start.being.planned c.add_bodies.ensures.ran))

-- where it can't be closed

pub returns-in_err-close-clause-images : goal.returns-in_err-close-clause-images
returns-in_err-close-clause-images g c =
    let journal = c.args.journal.now in
    let slot : c.file-slot.result ≡ slot_of journal.progress.ticks =
    c.file-slot.ensures ∙ c.of.ensures ∙ ap slot_of c.ticks-ticks.ensures in
    let order = ordered journal slot c.count-count.ensures c.requires c.reorder.ensures.ran c.in_ok-reorder.ensures.sorted in
    let plan : fresh_plan c.new-fresh.result ≡ snap_plan journal =
    planned_of journal c.new-fresh.ensures c.snapshot_file.ensures.number c.ticks-ticks.ensures c.count-count.ensures
    c.time.ensures in
    let start = begun plan order c.in_ok-filling.ensures.empty c.in_ok-filling.ensures.begun c.in_ok-filling.ensures.shut
    c.begin.ensures.ran.leads in
    let being = filled c.count-count.ensures start c.in_ok-filling-2.ensures.added in
    λ bodies keys. images_closed journal bodies (λ tells. being tells bodies (keys tells)) c.close.ensures.ran.leads

pub returns-in_err-close-clause-ran : goal.returns-in_err-close-clause-ran
returns-in_err-close-clause-ran g c =
    let journal = c.args.journal.now in
    let slot : c.file-slot.result ≡ slot_of journal.progress.ticks =
    c.file-slot.ensures ∙ c.of.ensures ∙ ap slot_of c.ticks-ticks.ensures in
    let order = ordered journal slot c.count-count.ensures c.requires c.reorder.ensures.ran c.in_ok-reorder.ensures.sorted in
    let plan : fresh_plan c.new-fresh.result ≡ snap_plan journal =
    planned_of journal c.new-fresh.ensures c.snapshot_file.ensures.number c.ticks-ticks.ensures c.count-count.ensures
    c.time.ensures in
    let start = begun plan order c.in_ok-filling.ensures.empty c.in_ok-filling.ensures.begun c.in_ok-filling.ensures.shut
    c.begin.ensures.ran.leads in
    let full : plan_of c.in_ok-filling-2.filling ≡ snap_plan journal =
    c.in_ok-filling-2.ensures.full.0 ∙ start.being.planned in
    let files = snapshot_files journal.progress.ticks in
    let among = sorted_among journal.progress.ticks in
    let sorted = well_cached c.reorder.ensures.ran (search rules) (sorted_agrees files among order.leads) in
    let headed = well_then sorted is_ok
    (well_syncing c.begin.ensures.ran (search rules) (file_agrees files (plan_among journal plan) c.begin.ensures.ran.leads)) in
    let added = well_then headed is_ok (session_adds journal c.in_ok-filling.filling start.being.planned c.add_bodies.ensures.ran) in
    let error = c.in_err-close.field-0.0 in
    let handed_on : c.from_residual-in_err-close.result ≡ Err (of_host error) = search rules in
    well_then added (search rules)
    (session_by
    (session_syncing c.close.ensures.ran (host_rose error c.in_err-close.was handed_on)
    (host_fell error c.in_err-close.was handed_on) (λ ok. search rules))
    (file_agrees files (plan_among journal full) c.close.ensures.ran.leads))

-- where it is

pub returns-clause-settled : goal.returns-clause-settled
returns-clause-settled g c =
    let journal = c.args.journal.now in
    let slot : c.file-slot.result ≡ slot_of journal.progress.ticks =
    c.file-slot.ensures ∙ c.of.ensures ∙ ap slot_of c.ticks-ticks.ensures in
    let order = ordered journal slot c.count-count.ensures c.requires c.reorder.ensures.ran c.in_ok-reorder.ensures.sorted in
    let plan : fresh_plan c.new-fresh.result ≡ snap_plan journal =
    planned_of journal c.new-fresh.ensures c.snapshot_file.ensures.number c.ticks-ticks.ensures c.count-count.ensures
    c.time.ensures in
    let start = begun plan order c.in_ok-filling.ensures.empty c.in_ok-filling.ensures.begun c.in_ok-filling.ensures.shut
    c.begin.ensures.ran.leads in
    let full : plan_of c.in_ok-filling-2.filling ≡ snap_plan journal =
    c.in_ok-filling-2.ensures.full.0 ∙ start.being.planned in
    settled_file (high_plan journal full) c.close.ensures.ran.leads c.in_ok-filling-2.ensures.settled

pub returns-clause-pages : goal.returns-clause-pages
returns-clause-pages g c = c.in_ok-filling-2.ensures.pages ∙ c.reorder.ensures.ran.writes.pages

pub returns-clause-written : goal.returns-clause-written
returns-clause-written g c =
    let journal = c.args.journal.now in
    let slot : c.file-slot.result ≡ slot_of journal.progress.ticks =
    c.file-slot.ensures ∙ c.of.ensures ∙ ap slot_of c.ticks-ticks.ensures in
    let order = ordered journal slot c.count-count.ensures c.requires c.reorder.ensures.ran c.in_ok-reorder.ensures.sorted in
    let plan : fresh_plan c.new-fresh.result ≡ snap_plan journal =
    planned_of journal c.new-fresh.ensures c.snapshot_file.ensures.number c.ticks-ticks.ensures c.count-count.ensures
    c.time.ensures in
    let start = begun plan order c.in_ok-filling.ensures.empty c.in_ok-filling.ensures.begun c.in_ok-filling.ensures.shut
    c.begin.ensures.ran.leads in
    let being = filled c.count-count.ensures start c.in_ok-filling-2.ensures.added in
    λ tells bodies keys. closed_snapshot journal tells (being tells bodies keys) c.in_ok-close.ensures.finished

pub returns-clause-images : goal.returns-clause-images
returns-clause-images g c =
    let journal = c.args.journal.now in
    let slot : c.file-slot.result ≡ slot_of journal.progress.ticks =
    c.file-slot.ensures ∙ c.of.ensures ∙ ap slot_of c.ticks-ticks.ensures in
    let order = ordered journal slot c.count-count.ensures c.requires c.reorder.ensures.ran c.in_ok-reorder.ensures.sorted in
    let plan : fresh_plan c.new-fresh.result ≡ snap_plan journal =
    planned_of journal c.new-fresh.ensures c.snapshot_file.ensures.number c.ticks-ticks.ensures c.count-count.ensures
    c.time.ensures in
    let start = begun plan order c.in_ok-filling.ensures.empty c.in_ok-filling.ensures.begun c.in_ok-filling.ensures.shut
    c.begin.ensures.ran.leads in
    let being = filled c.count-count.ensures start c.in_ok-filling-2.ensures.added in
    λ bodies keys. images_closed journal bodies (λ tells. being tells bodies (keys tells)) c.close.ensures.ran.leads

pub returns-clause-ran : goal.returns-clause-ran
returns-clause-ran g c =
    let journal = c.args.journal.now in
    let slot : c.file-slot.result ≡ slot_of journal.progress.ticks =
    c.file-slot.ensures ∙ c.of.ensures ∙ ap slot_of c.ticks-ticks.ensures in
    let order = ordered journal slot c.count-count.ensures c.requires c.reorder.ensures.ran c.in_ok-reorder.ensures.sorted in
    let plan : fresh_plan c.new-fresh.result ≡ snap_plan journal =
    planned_of journal c.new-fresh.ensures c.snapshot_file.ensures.number c.ticks-ticks.ensures c.count-count.ensures
    c.time.ensures in
    let start = begun plan order c.in_ok-filling.ensures.empty c.in_ok-filling.ensures.begun c.in_ok-filling.ensures.shut
    c.begin.ensures.ran.leads in
    let full : plan_of c.in_ok-filling-2.filling ≡ snap_plan journal =
    c.in_ok-filling-2.ensures.full.0 ∙ start.being.planned in
    let files = snapshot_files journal.progress.ticks in
    let among = sorted_among journal.progress.ticks in
    let sorted = well_cached c.reorder.ensures.ran (search rules) (sorted_agrees files among order.leads) in
    let headed = well_then sorted is_ok
    (well_syncing c.begin.ensures.ran (search rules) (file_agrees files (plan_among journal plan) c.begin.ensures.ran.leads)) in
    let added = well_then headed is_ok (session_adds journal c.in_ok-filling.filling start.being.planned c.add_bodies.ensures.ran) in
    well_then added (search rules)
    (well_syncing c.close.ensures.ran (search rules) (file_agrees files (plan_among journal full) c.close.ensures.ran.leads))
