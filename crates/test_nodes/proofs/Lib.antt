pub mod FewOrders
pub mod LeftDeliveries
mod WorkedOrders
