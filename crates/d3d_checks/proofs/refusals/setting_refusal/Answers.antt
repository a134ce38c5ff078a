use Rattle.d3d_checks.proofs.refusals.setting_refusal.Goals as goal

pub returns-in-SetShader : goal.returns-in-SetShader
returns-in-SetShader c = λ past tells. rw c.in-SetShader.is (c.shader_refusal.ensures past)

pub returns-in-SetConstant : goal.returns-in-SetConstant
returns-in-SetConstant c = λ past tells. rw c.in-SetConstant.is (c.constant_refusal.ensures past)

pub returns-in-SetSrv : goal.returns-in-SetSrv
returns-in-SetSrv c = λ past tells. rw c.in-SetSrv.is (c.srv_refusal.ensures past)

pub returns-in-SetUav : goal.returns-in-SetUav
returns-in-SetUav c = λ past tells. rw c.in-SetUav.is (c.uav_refusal.ensures past)

pub returns-in-SetPredication : goal.returns-in-SetPredication
returns-in-SetPredication c = λ past tells. rw c.in-SetPredication.is (c.predication_refusal.ensures past)

pub returns-in-Query : goal.returns-in-Query
returns-in-Query c = λ past tells. rw c.in-Query.is (c.create_query_refusal.ensures past)

pub returns-in-Begin : goal.returns-in-Begin
returns-in-Begin c = λ past tells. rw c.in-Begin.is (c.begin_refusal.ensures past)

pub returns-in-EndQuery : goal.returns-in-EndQuery
returns-in-EndQuery c = λ past tells. rw c.in-EndQuery.is (c.end_refusal.ensures past)

pub returns-in-GetData : goal.returns-in-GetData
returns-in-GetData c = λ past tells. rw c.in-GetData.is (c.get_data_refusal.ensures past)
