use Rattle.std.proofs.Common.{◌∙◌, ap}
use Rattle.nb_record.specs.declared.sizes.TheConstants.{BODY_SIZE}
use Rattle.nb_record.specs.Records.{record_bytes, kick_of}
use Rattle.nb_record.specs.Pages.{page_number}
use Rattle.nb_record.specs.Writing.{with_record}
use Rattle.nb_record.proofs.Rows.{record_room, record_body, record_kick, record_form}
use Rattle.nb_record.proofs.Adding.{numbered_bodies, number_kept, body_page_added, count_more, record_kept, record_new, bodies_added, padded_added}
use Rattle.nb_record.proofs.writers.add_body.Goals as goal

pub returns-clause-number : goal.returns-clause-number
returns-clause-number c =
    let room = record_room c.args.body.now c.args.kick.now c.args.into.now c.requires.size c.requires.room in
    rw (c.put_word.ensures, c.put_record.ensures.bytes, c.word_at-count.ensures) (number_kept BODY_SIZE (record_bytes c.args.body.now c.args.kick.now) c.args.into.now room)

pub returns-clause-form : goal.returns-clause-form
returns-clause-form c =
    let room = record_room c.args.body.now c.args.kick.now c.args.into.now c.requires.size c.requires.room in
    let form = body_page_added (record_bytes c.args.body.now c.args.kick.now) c.args.into.now room c.requires.room c.requires.form in
    rw (c.put_word.ensures, c.put_record.ensures.bytes, c.word_at-count.ensures)
    (numbered_bodies (page_number c.args.into.now) (with_record BODY_SIZE (record_bytes c.args.body.now c.args.kick.now) c.args.into.now) form)

pub returns-clause-count : goal.returns-clause-count
returns-clause-count c =
    let room = record_room c.args.body.now c.args.kick.now c.args.into.now c.requires.size c.requires.room in
    rw (c.put_word.ensures, c.put_record.ensures.bytes, c.word_at-count.ensures) (count_more BODY_SIZE (record_bytes c.args.body.now c.args.kick.now) c.args.into.now room)

pub returns-clause-kept : goal.returns-clause-kept
returns-clause-kept c =
    let room = record_room c.args.body.now c.args.kick.now c.args.into.now c.requires.size c.requires.room in
    rw (c.put_word.ensures, c.put_record.ensures.bytes, c.word_at-count.ensures) (λ i before. record_kept BODY_SIZE (record_bytes c.args.body.now c.args.kick.now) c.args.into.now i room before)

pub returns-clause-valid : goal.returns-clause-valid
returns-clause-valid c =
    let room = record_room c.args.body.now c.args.kick.now c.args.into.now c.requires.size c.requires.room in
    λ valid. rw (c.put_word.ensures, c.put_record.ensures.bytes, c.word_at-count.ensures)
    (rw (record_new BODY_SIZE (record_bytes c.args.body.now c.args.kick.now) c.args.into.now room) (record_form c.args.body.now c.args.kick.now valid c.put_record.ensures.fits c.requires.kick))

pub returns-clause-bodies : goal.returns-clause-bodies
returns-clause-bodies c =
    let room = record_room c.args.body.now c.args.kick.now c.args.into.now c.requires.size c.requires.room in
    rw (c.put_word.ensures, c.put_record.ensures.bytes, c.word_at-count.ensures)
    (bodies_added (record_bytes c.args.body.now c.args.kick.now) c.args.into.now c.args.body.now room (record_body c.args.body.now c.args.kick.now c.put_record.ensures.fits))

pub returns-clause-kick : goal.returns-clause-kick
returns-clause-kick c =
    let room = record_room c.args.body.now c.args.kick.now c.args.into.now c.requires.size c.requires.room in
    rw (c.put_word.ensures, c.put_record.ensures.bytes, c.word_at-count.ensures)
    (ap kick_of (record_new BODY_SIZE (record_bytes c.args.body.now c.args.kick.now) c.args.into.now room) ∙ record_kick c.args.body.now c.args.kick.now c.requires.kick)

pub returns-clause-padded : goal.returns-clause-padded
returns-clause-padded c =
    let room = record_room c.args.body.now c.args.kick.now c.args.into.now c.requires.size c.requires.room in
    λ padded. rw (c.put_word.ensures, c.put_record.ensures.bytes, c.word_at-count.ensures) (padded_added BODY_SIZE (record_bytes c.args.body.now c.args.kick.now) c.args.into.now room padded)
