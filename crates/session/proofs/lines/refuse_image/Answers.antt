use Rattle.session.proofs.lines.refuse_image.Goals as goal

pub returns-in-Header : goal.returns-in-Header
returns-in-Header g c = rw c.in-Header.is c.refuse-in-Header.ensures

pub returns-in-Machine : goal.returns-in-Machine
returns-in-Machine g c = rw c.in-Machine.is c.refuse-in-Machine.ensures

pub returns-in-Segment : goal.returns-in-Segment
returns-in-Segment g c = rw c.in-Segment.is c.refuse_number.ensures
