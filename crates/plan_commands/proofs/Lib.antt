mod PlanWords
mod ToldAnswers
mod DrawnLosses
mod DrawnRuns
mod FewDeliveries
mod SeedsInTurn
