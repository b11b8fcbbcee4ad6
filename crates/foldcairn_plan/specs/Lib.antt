pub mod PlanCalls
