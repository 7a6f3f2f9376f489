use Rattle.std.proofs.Common.{◌≡◌, ◌++◌, sym, ap, ◌∙◌, subst}
use Rattle.node_links.specs.Links.{queued}
use Rattle.rand_pcg.specs.Pcg.{pcg32}
use Rattle.link_faults.specs.Fates.{fate_of}
use Rattle.link_faults.specs.Faults.{Holding, next_fate, held_frames, queued_by, IsBegun}
use Rattle.link_faults.proofs.Among.{first_begun, second_begun, sent_among}
use Rattle.link_faults.proofs.faults.LinkFaults.send.Goals as goal

pub returns-in_err-self-inside-clause-among : goal.returns-in_err-self-inside-clause-among
returns-in_err-self-inside-clause-among c =
    let sent = c.in_err-self-inside.ensures in
    sent_among (queued c.args.out.now) (queued c.queue_by.new.out) c.args.self.now.held c.take-held.new.self c.fate_of-fate.result c.args.frame
    (first_begun (queued c.args.out.now) (queued c.queue_by.new.out) (queued_by c.fate_of-fate.result c.args.frame) (held_frames c.args.self.now.held) sent.begun)
    (c.take-held.ensures.after ∙ sym sent.none_held)

pub returns-clause-begun : goal.returns-clause-begun
returns-clause-begun c =
    let one = queued_by c.fate_of-fate.result c.args.frame in
    let two = held_frames c.take-held.result in
    let begun = second_begun (queued c.args.out.now) (queued c.queue_by.new.out) (queued c.queue_held.new.out) one two c.in_ok-self-inside.ensures.ok c.queue_held.ensures.begun in
    let fate_is : c.fate_of-fate.result ≡ next_fate c.args.plan.now c.args.self.now =
    c.fate_of-fate.ensures ∙ ap (fate_of c.args.plan.now) (ap (λ p. p.0) c.next_word.ensures ∙ ap (λ (v : Holding). (pcg32 v.words).0) c.self.view_is) in
    let held_is : c.take-held.result ≡ c.args.self.now.held = c.take-held.ensures.value ∙ ap (λ (v : Holding). v.held) c.self.view_is in
    let is = ap (λ fate. queued_by fate c.args.frame ++ two) fate_is
    ∙ ap (λ held. queued_by (next_fate c.args.plan.now c.args.self.now) c.args.frame ++ held_frames held) held_is in
    subst (IsBegun (queued c.args.out.now) (queued c.queue_held.new.out)) is begun

pub returns-clause-among : goal.returns-clause-among
returns-clause-among c =
    let one = queued_by c.fate_of-fate.result c.args.frame in
    let two = held_frames c.take-held.result in
    let begun = second_begun (queued c.args.out.now) (queued c.queue_by.new.out) (queued c.queue_held.new.out) one two c.in_ok-self-inside.ensures.ok c.queue_held.ensures.begun in
    let held_is : c.take-held.result ≡ c.args.self.now.held = c.take-held.ensures.value ∙ ap (λ (v : Holding). v.held) c.self.view_is in
    sent_among (queued c.args.out.now) (queued c.queue_held.new.out) c.args.self.now.held c.in_ok-self-inside.field-0 c.fate_of-fate.result c.args.frame
    (subst (λ h. IsBegun (queued c.args.out.now) (queued c.queue_held.new.out) (one ++ held_frames h)) held_is begun) c.in_ok-self-inside.ensures.held
